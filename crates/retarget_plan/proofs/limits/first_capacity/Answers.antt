use Rattle.std.proofs.Common.{◌≡◌, ◌<◌, Some, length, sym, arith}
use Rattle.plan_check.proofs.Firsts.{first_below_stops}
use Rattle.retarget_plan.specs.Leaving.{large_capacity}
use Rattle.retarget_plan.proofs.limits.first_capacity.Goals as goal

pub returns-in-Some : goal.returns-in-Some
returns-in-Some c =
    let inside : c.loop-l.l < length c.args.capacities.now = grind arith in
    let answers : large_capacity c.args.capacities.now c.loop-l.l ≡ Some c.in-Some.cause = cc in
    sym (first_below_stops (large_capacity c.args.capacities.now) (length c.args.capacities.now) c.loop-l.l c.in-Some.cause inside c.loop-l.invariant answers)
