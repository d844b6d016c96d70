use Rattle.retarget_plan.proofs.Beginnings.{begins-settled}
use Rattle.retarget_plan.proofs.laws.a_plan_begins_with_what_is_settled.Goals as goal

pub returns : goal.returns
returns c = λ p plan at divisor q on goes valid. begins-settled p plan at divisor q goes on valid
