use Rattle.std.proofs.Common.{◌≡◌, vec_capacity}
use Rattle.update_scheduler.proofs.Going.{GoesOn}
use Rattle.update_scheduler.proofs.tries.try_each.Given as goal

abbrev pub invariant-loop-candidate : goal.invariant-loop-candidate
invariant-loop-candidate l = GoesOn l.initial.graph l.graph l.initial.begun.items l.begun.items l.order l.candidate-index
    × (vec_capacity l.begun ≡ vec_capacity l.initial.begun)
