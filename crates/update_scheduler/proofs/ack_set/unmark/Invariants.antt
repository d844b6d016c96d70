use Rattle.std.proofs.Common.{◌≡◌, length}
use Rattle.update_scheduler.proofs.Marking.{AreLeft}
use Rattle.update_scheduler.proofs.ack_set.unmark.Given as goal

-- the items from this one on still have their marks
abbrev pub invariant-loop-item : goal.invariant-loop-item
invariant-loop-item l = AreLeft l.marks l.row l.item-index
    × (length l.marks ≡ length l.initial.marks)
