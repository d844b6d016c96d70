use Rattle.std.proofs.Common.{◌≡◌, ◌<◌, Some, length, sym, arith}
use Rattle.plan_check.specs.FirstBroken.{bare}
use Rattle.plan_check.proofs.Firsts.{first_below_stops}
use Rattle.plan_check.proofs.carried.bare_at.Goals as goal

pub returns-in-Some : goal.returns-in-Some
returns-in-Some c =
    let p = c.args.problem.now in
    let plan = c.args.plan.now in
    let inside : c.loop-t.t < length p.tunnels = grind arith in
    let answers : (bare plan c.args.s) c.loop-t.t ≡ Some c.in-Some.broken = cc in
    sym (first_below_stops (bare plan c.args.s) (length p.tunnels) c.loop-t.t c.in-Some.broken inside c.loop-t.invariant answers)
