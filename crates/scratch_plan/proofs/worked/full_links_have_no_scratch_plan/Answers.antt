use Rattle.std.proofs.Common.{refl}
use Rattle.plan_check.specs.LeastSlack.{least_slack}
use Rattle.scratch_plan.proofs.worked.full_links_have_no_scratch_plan.Goals as goal

pub returns : goal.returns
unfolding least_slack
returns c = refl
