-- Rounds of the book in a shared history, and what they settle.
use Rattle.std.specs.Prelude.{◌≡◌, ◌≢◌, ℕ, List, Option, Some}
use Rattle.std.specs.List.{Contains}
use Rattle.rollout_rules.specs.declared.op.Op.{Op}
use Rattle.rollout_rules.specs.declared.op.Entry.TheVariants.{Done}
use Rattle.switch_ports.specs.Outboxes.{home_at}
use Rattle.shared_book.specs.declared.note.Written.{Written}

-- A note doesn't say that an operation is done whose item's home is one of these switches.
abbrev pub EndsNoneAt : List (Option ℕ) → List ℕ → Written → Type 0
EndsNoneAt homes switches w = (op : Op) → Contains w.entries (Done op) → (switch : ℕ) → home_at homes op.item ≡ Some switch → Contains switches switch → ⊥

-- so it is with the notes of all other seats
abbrev pub OthersEndElsewhere : List (Option ℕ) → List ℕ → ℕ → List Written → Type 0
OthersEndElsewhere homes switches seat log = (w : Written) → Contains log w → seat ≢ w.note.seat → EndsNoneAt homes switches w
