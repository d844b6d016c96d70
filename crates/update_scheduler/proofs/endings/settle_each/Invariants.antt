use Rattle.std.proofs.Common.{◌≡◌, vec_capacity}
use Rattle.update_scheduler.proofs.Settling.{GoesOn}
use Rattle.update_scheduler.proofs.endings.settle_each.Given as goal

abbrev pub invariant-loop-item : goal.invariant-loop-item
invariant-loop-item l = GoesOn l.initial.graph l.graph l.initial.batch.items l.batch.items l.items l.item-index
    × (vec_capacity l.batch ≡ vec_capacity l.initial.batch)
