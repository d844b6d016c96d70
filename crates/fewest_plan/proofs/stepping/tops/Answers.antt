use Rattle.std.proofs.Common.{◌≡◌, length, arith}
use Rattle.fewest_plan.proofs.Trying.{tops-from}
use Rattle.fewest_plan.proofs.stepping.tops.Goals as goal

pub returns-clause-value : goal.returns-clause-value
returns-clause-value c =
    let all : c.loop-t.t ≡ length c.args.problem.now.tunnels = grind arith in
    tops-from c.args.problem.now c.args.scale c.args.shares.now c.loop-t.sums.items c.loop-t.t all c.loop-t.invariant
