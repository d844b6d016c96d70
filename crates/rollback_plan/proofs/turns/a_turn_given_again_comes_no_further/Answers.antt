use Rattle.rollback_plan.proofs.TurnContents.{no-further}
use Rattle.rollback_plan.proofs.turns.a_turn_given_again_comes_no_further.Goals as goal

pub returns : goal.returns
returns c = λ p plan found h s t more so turned again. no-further p plan found h s t more so turned.sound again
