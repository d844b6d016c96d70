-- The bytes so far are those of whole answers.
use Rattle.std.proofs.Common.{◌-◌, ◌≤◌, length, take}
use Rattle.host_edge.proofs.Sorting.{AreWhole}
use Rattle.host_edge.proofs.inbox.whole_len.Given as goal

abbrev pub invariant-loop-done : goal.invariant-loop-done
invariant-loop-done l = record {
  within : l.done ≤ length l.bytes;
  whole : AreWhole (take l.done l.bytes);
}

abbrev pub decreases-loop-done : goal.decreases-loop-done
decreases-loop-done l = length l.bytes - l.done
