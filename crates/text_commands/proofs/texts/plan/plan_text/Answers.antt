use Rattle.std.proofs.Common.{ap}
use Rattle.std.proofs.lemmas.Result.{err_from_is_err_and}
use Rattle.text_commands.specs.Answers.{rollout_text}
use Rattle.text_commands.proofs.Planned.{chosen-document, chosen-safe, unplanned-gives}
use Rattle.text_commands.proofs.texts.plan.plan_text.Goals as goal

pub returns-in_err-chosen-clause-gives : goal.returns-in_err-chosen-clause-gives
returns-in_err-chosen-clause-gives c =
    let p = err_from_is_err_and c.from_residual.result c.from_residual.ensures.1 in
    rw (p.1, p.2) (unplanned-gives _ _ _ _ c.in_err-chosen.ensures.0 c.in_err-chosen.ensures.1)

pub returns-clause-gives : goal.returns-clause-gives
returns-clause-gives c =
    chosen-document _ _ _ _ _ (record { same = c.in_ok-chosen.ensures.0; is_chosen = c.in_ok-chosen.ensures.1 }) (ap rollout_text c.plan_of.ensures)

pub returns-clause-safe : goal.returns-clause-safe
returns-clause-safe c =
    chosen-safe _ _ _ _ (record { same = c.in_ok-chosen.ensures.0; is_chosen = c.in_ok-chosen.ensures.1 })
    c.every_rollout_is_safe.ensures.valid c.every_rollout_is_safe.ensures.safe
