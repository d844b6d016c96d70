use Rattle.rollback_plan.proofs.Leading.{can-be_levelled}
use Rattle.rollback_plan.proofs.levels.every_history_can_be_levelled.Goals as goal

pub returns : goal.returns
returns c = λ p plan h s net valid legal most up. can-be_levelled p plan s most net valid h legal up
