use Rattle.std.proofs.Common.{◌≡◌, ◌<◌, Some, length, sym, arith}
use Rattle.plan_check.proofs.Firsts.{first_below_stops}
use Rattle.retarget_plan.specs.Leaving.{large_rate}
use Rattle.retarget_plan.proofs.limits.first_rate.Goals as goal

pub returns-in-Some : goal.returns-in-Some
returns-in-Some c =
    let inside : c.loop-t.t < length c.args.rates.now = grind arith in
    let answers : large_rate c.args.row c.args.rates.now c.loop-t.t ≡ Some c.in-Some.cause = cc in
    sym (first_below_stops (large_rate c.args.row c.args.rates.now) (length c.args.rates.now) c.loop-t.t c.in-Some.cause inside c.loop-t.invariant answers)
