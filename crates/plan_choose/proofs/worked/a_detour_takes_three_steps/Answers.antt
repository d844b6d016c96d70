use Rattle.std.proofs.Common.{refl}
use Rattle.fraction_lp.specs.Dictionary.{end_from, end_of}
use Rattle.plan_check.specs.LeastSlack.{least_slack}
use Rattle.plan_choose.specs.Choice.{step_plan}
use Rattle.plan_choose.proofs.worked.a_detour_takes_three_steps.Goals as goal

pub returns : goal.returns
unfolding end_from end_of least_slack step_plan
returns c = refl
