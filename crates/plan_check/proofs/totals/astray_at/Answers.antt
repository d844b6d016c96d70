use Rattle.std.proofs.Common.{◌≡◌, ◌<◌, Some, length, sym, arith}
use Rattle.plan_check.specs.FirstBroken.{astray}
use Rattle.plan_check.proofs.Firsts.{first_below_stops}
use Rattle.plan_check.proofs.totals.astray_at.Goals as goal

pub returns-in-Some : goal.returns-in-Some
returns-in-Some c =
    let p = c.args.problem.now in
    let plan = c.args.plan.now in
    let inside : c.loop-f.f < length p.flows = grind arith in
    let answers : (astray p plan c.args.s) c.loop-f.f ≡ Some c.in-Some.broken = cc in
    sym (first_below_stops (astray p plan c.args.s) (length p.flows) c.loop-f.f c.in-Some.broken inside c.loop-f.invariant answers)
