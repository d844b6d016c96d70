use Rattle.std.proofs.Common.{◌≡◌, ◌<◌, Some, length, sym, arith}
use Rattle.plan_check.specs.FirstBroken.{bare_at}
use Rattle.plan_check.proofs.Firsts.{first_below_stops}
use Rattle.plan_check.proofs.carried.first_bare.Goals as goal

pub returns-in-Some : goal.returns-in-Some
returns-in-Some c =
    let p = c.args.problem.now in
    let plan = c.args.plan.now in
    let inside : c.loop-s.s < length plan.stages = grind arith in
    let answers : (bare_at p plan) c.loop-s.s ≡ Some c.in-Some.broken = cc in
    sym (first_below_stops (bare_at p plan) (length plan.stages) c.loop-s.s c.in-Some.broken inside c.loop-s.invariant answers)
