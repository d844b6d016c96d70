use Rattle.rollback_plan.proofs.Ceilings.{ceiling-most, begun-up_to_ceiling, ceiling-least}
use Rattle.rollback_plan.proofs.levels.a_history_is_begun_up_to_its_ceiling.Goals as goal

pub returns : goal.returns
returns c = record { stage = ceiling-most; begun = begun-up_to_ceiling; least = ceiling-least }
