use Rattle.lp_proof.proofs.NoFewer.{takes_at_least}
use Rattle.lp_proof.proofs.laws.what_is_shown_holds_of_every_plan.Goals as goal

pub returns : goal.returns
returns c = takes_at_least
