use Rattle.std.proofs.Common.{◌≡◌, ◌+◌, ◌*◌, ◌≤◌, length, drop}
use Rattle.update_scheduler.specs.InFlight.{with_each}
use Rattle.update_scheduler.proofs.in_flight.InFlight.follow.Given as goal

-- what the entries that are left make of it, all make of what there was
abbrev pub invariant-loop-entry : goal.invariant-loop-entry
invariant-loop-entry l = (with_each l.self.ops (drop l.entry-index l.entries) ≡ with_each l.initial.self.ops l.entries)
    × (l.self.items ≡ l.initial.self.items)
    × (length l.self.ops + length (drop l.entry-index l.entries) ≤ 3 * l.initial.self.items)
