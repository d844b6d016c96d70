use Rattle.std.proofs.Common.{ap₂, subst}
use Rattle.problem_json.specs.Writing.{document_text}
use Rattle.text_commands.proofs.writing.push_rollout.Goals as goal

pub returns : goal.returns
returns g c =
    g.met.P.Pieces.pushed_further _ _ _ _ _
    (subst (λ text. g.P.Pieces.pushes c.args.pieces.now text c.push_document.new.text) (ap₂ document_text c.problem.ensures c.plan.ensures.part) c.push_document.ensures.text)
    c.push_str.ensures
