use Rattle.std.proofs.Common.{refl}
use Rattle.plan_check.specs.LeastSlack.{least_slack}
use Rattle.scratch_plan.proofs.worked.a_free_third_gives_two_steps.Goals as goal

pub returns : goal.returns
unfolding least_slack
returns c = refl
