use Rattle.std.proofs.Common.{◌≡◌, length, arith}
use Rattle.plan_check.proofs.LinkSums.{loads-from_sums}
use Rattle.plan_texts.specs.Rows.{larger_at}
use Rattle.plan_texts.proofs.sums.wide_loads.Goals as goal

pub returns : goal.returns
returns c =
    let all : c.loop-t.t ≡ length c.args.problem.now.tunnels = grind arith in
    loads-from_sums c.args.problem.now (larger_at c.args.plan.now c.args.here c.args.next) c.loop-t.sums.items c.loop-t.t all c.loop-t.invariant
