use Rattle.rollback_plan.proofs.TurnContents.{begins-back}
use Rattle.rollback_plan.proofs.turns.the_way_back_begins_with_what_is_settled.Goals as goal

pub returns : goal.returns
returns c = λ p plan h s valid legal most sound. begins-back p plan h s legal most valid sound
