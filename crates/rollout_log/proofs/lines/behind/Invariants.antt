use Rattle.std.proofs.Common.{length}
use Rattle.rollout_log.proofs.Lining.{HasBehind}
use Rattle.rollout_log.proofs.lines.behind.Given as goal

abbrev pub invariant-loop-left : goal.invariant-loop-left
invariant-loop-left l = record {
  behind : HasBehind l.known l.list l.left l.rest;
}

abbrev pub decreases-loop-left : goal.decreases-loop-left
decreases-loop-left l = length l.left
