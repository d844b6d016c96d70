use Rattle.std.proofs.Common.{◌∙◌, ap}
use Rattle.rollback_plan.specs.Turning.{back}
use Rattle.rollback_plan.proofs.here.turn_stage.Goals as goal

pub first_stage-requires-clause-turned : goal.first_stage-requires-clause-turned
first_stage-requires-clause-turned c = c.in_ok-there.ensures ∙ ap back c.plan.ensures
