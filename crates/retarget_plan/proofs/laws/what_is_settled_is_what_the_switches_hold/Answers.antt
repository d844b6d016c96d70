use Rattle.retarget_plan.proofs.Holdings.{held-settled}
use Rattle.retarget_plan.proofs.laws.what_is_settled_is_what_the_switches_hold.Goals as goal

pub returns : goal.returns
returns c = λ p plan w n safe idle lt. held-settled p plan w safe idle n lt
