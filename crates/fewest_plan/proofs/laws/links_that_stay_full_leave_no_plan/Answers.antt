use Rattle.fewest_plan.proofs.Stuckness.{full-none}
use Rattle.fewest_plan.proofs.laws.links_that_stay_full_leave_no_plan.Goals as goal

pub returns : goal.returns
returns c = full-none
