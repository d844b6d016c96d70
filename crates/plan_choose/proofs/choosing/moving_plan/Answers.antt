use Rattle.std.proofs.Common.{◌+◌, sym, ◌∙◌}
use Rattle.plan_choose.proofs.Choices.{fewer_steps-valid}
use Rattle.plan_choose.proofs.choosing.moving_plan.Goals as goal

pub returns-in-Some-clause-valid : goal.returns-in-Some-clause-valid
returns-in-Some-clause-valid c =
    fewer_steps-valid c.args.problem.now (c.most_tried.result + 1) c.in-Some.planned (sym c.in_ok-planned.ensures ∙ c.in-Some.is)
