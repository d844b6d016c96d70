use Rattle.std.proofs.Common.{arith}
use Rattle.rollout_report.proofs.starts.start_before.Goals as goal

pub settled-requires-in-loop-item : goal.settled-requires-in-loop-item
settled-requires-in-loop-item c = omega (arith, c.in_ok-done.ensures.all, c.loop-item-test.true, c.loop-item.invariant.end)
