use Rattle.std.proofs.Common.{◌≡◌, length, arith}
use Rattle.plan_texts.specs.Rows.{either_at}
use Rattle.plan_texts.proofs.Entries.{entries-from_sums}
use Rattle.plan_texts.proofs.sums.wide_entries.Goals as goal

pub returns : goal.returns
returns c =
    let all : c.loop-t.t ≡ length c.args.problem.now.tunnels = grind arith in
    entries-from_sums c.args.problem.now (either_at c.args.plan.now c.args.here c.args.next) c.loop-t.t c.loop-t.sums.items all c.loop-t.invariant
