use Rattle.std.proofs.Common.{◌≡◌, ℕ, List, ◌++◌, codes, append_assoc, ap, ap₂, ◌∙◌}
use Rattle.std.specs.Prelude.{decimal}
use Rattle.std.proofs.lemmas.Result.{on_ok_weaker}
use Rattle.sim_run.proofs.trial.push_plan.Goals as goal

pub returns : goal.returns
returns c =
    let told : ℕ → ℕ → List ℕ = λ steps scale. codes "plan: steps " ++ decimal steps ++ codes ", rate steps " ++ decimal c.args.rate_steps ++ codes ", scale " ++ decimal scale ++ codes "\n" in
    let line : c.deref.result.now ≡ told c.last_stage-steps.result c.behind-plan.inside.scale = simp append_assoc (c.deref.ensures ∙ c.in_ok-line.ensures.ok) in
    on_ok_weaker c.push_str.result (λ e. e ∙ ap (λ l. c.args.text.now ++ l) (line ∙ ap₂ told c.last_stage-steps.ensures.value (ap (λ l. l.scale) (c.behind-plan.view_is ∙ c.plan.ensures.part)))) c.push_str.ensures.ok
