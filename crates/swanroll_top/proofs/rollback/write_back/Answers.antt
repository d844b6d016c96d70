use Rattle.std.proofs.Common.{◌++◌, ◌∙◌, [], ◌∷◌, refl, ap}
use Rattle.rollout_rules.specs.Wan.{Rollout}
use Rattle.problem_json.specs.Writing.{document_text}
use Rattle.swanroll_top.specs.Rollbacks.{back_text}
use Rattle.swanroll_top.proofs.Agents.{text-follows}
use Rattle.swanroll_top.proofs.Outcomes.{text-ends}
use Rattle.swanroll_top.proofs.rollback.write_back.Goals as goal

pub returns-in-Ok-clause-follows : goal.returns-in-Ok-clause-follows
returns-in-Ok-clause-follows g c = λ r is.
    text-follows _ (back_text r) _ _ _ (c.as_str.ensures ∙ c.in-Ok.ensures ∙ ap (λ (x : Rollout). document_text x.problem x.plan ++ 10 ∷ []) is) c.write_text.ensures.written

pub returns-in-Ok-clause-ends : goal.returns-in-Ok-clause-ends
returns-in-Ok-clause-ends g c = text-ends _ _ _ _ c.write_text.ensures.written

pub returns-in-Err-clause-follows : goal.returns-in-Err-clause-follows
returns-in-Err-clause-follows g c = λ r is. refl

pub returns-in-Err-clause-ends : goal.returns-in-Err-clause-ends
returns-in-Err-clause-ends g c = record { may = refl; silent = λ zero seven. refl }
