use Rattle.rollback_plan.proofs.Levelling.{levelling-holds}
use Rattle.rollback_plan.proofs.levels.a_levelling_policy_holds_from_its_stage.Goals as goal

pub returns : goal.returns
returns c = levelling-holds
