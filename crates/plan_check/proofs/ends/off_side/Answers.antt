use Rattle.std.proofs.Common.{◌≡◌, ◌<◌, Some, length, sym, arith}
use Rattle.rollout_rules.specs.Wan.{tunnel_at}
use Rattle.wan_model.specs.Sides.{rate_on}
use Rattle.plan_check.specs.FirstBroken.{stands_off}
use Rattle.plan_check.proofs.Firsts.{first_below_stops}
use Rattle.plan_check.proofs.ends.off_side.Goals as goal

pub returns-in-Some : goal.returns-in-Some
returns-in-Some c =
    let p = c.args.problem.now in
    let plan = c.args.plan.now in
    let inside : c.loop-t.t < length p.tunnels = grind arith in
    let answers : stands_off plan c.args.clause c.args.s c.loop-t.t (rate_on c.args.side (tunnel_at p c.loop-t.t)) ≡ Some c.in-Some.broken = cc in
    sym (first_below_stops (λ t. stands_off plan c.args.clause c.args.s t (rate_on c.args.side (tunnel_at p t))) (length p.tunnels) c.loop-t.t c.in-Some.broken inside c.loop-t.invariant answers)
