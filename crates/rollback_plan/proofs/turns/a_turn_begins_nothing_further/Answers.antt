use Rattle.rollback_plan.specs.Turns.{comes_to}
use Rattle.rollback_plan.proofs.Coming.{comes-above}
use Rattle.rollback_plan.proofs.Levelling.{release-to}
use Rattle.rollback_plan.proofs.turns.a_turn_begins_nothing_further.Goals as goal

pub returns : goal.returns
returns c = λ p plan policy found h s net valid most holds legal so. release-to p plan s most net valid policy holds (comes_to p plan found s) (λ n lt. comes-above p plan found s n) h legal so
