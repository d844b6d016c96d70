use Rattle.std.proofs.Common.{◌≡◌, length, arith}
use Rattle.plan_check.proofs.Shares.{loads_from_sums}
use Rattle.plan_check.proofs.sums.step_loads.Goals as goal

pub returns : goal.returns
returns c =
    let all : c.loop-t.t ≡ length c.args.problem.now.tunnels = grind arith in
    loads_from_sums c.args.problem.now c.args.plan.now c.args.s c.loop-t.t c.loop-t.sums.items c.links.ensures.network all c.loop-t.invariant
