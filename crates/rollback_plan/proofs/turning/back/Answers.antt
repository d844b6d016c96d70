use Rattle.std.proofs.Common.{◌∙◌, ap}
use Rattle.rollback_plan.specs.Turning.{back_problem, back_plan}
use Rattle.rollback_plan.proofs.Calls.{parts-valid, parts-back}
use Rattle.rollback_plan.proofs.turning.back.Goals as goal

pub seal-requires : goal.seal-requires
seal-requires c =
    parts-valid c.args.plan.now _ _ c.checked_plan_is_valid.ensures.valid (c.in_ok-problem.ensures ∙ ap back_problem c.problem.ensures) (c.in_ok-stages.ensures ∙ ap back_plan c.plan.ensures.part)

pub returns : goal.returns
returns c = c.seal.ensures ∙ parts-back c.args.plan.now _ _ (c.in_ok-problem.ensures ∙ ap back_problem c.problem.ensures) (c.in_ok-stages.ensures ∙ ap back_plan c.plan.ensures.part)
