use Rattle.std.proofs.Common.{◌≡◌, length, arith}
use Rattle.plan_check.proofs.Shares.{entries_from_sums}
use Rattle.plan_check.proofs.sums.step_entries.Goals as goal

pub returns : goal.returns
returns c =
    let all : c.loop-t.t ≡ length c.args.problem.now.tunnels = grind arith in
    entries_from_sums c.args.problem.now c.args.plan.now c.args.s c.loop-t.t c.loop-t.sums.items all c.loop-t.invariant
