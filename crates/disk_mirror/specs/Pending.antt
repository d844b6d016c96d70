-- The place and length of each write since the last sync, in order.
use Rattle.std.specs.Prelude.{ℕ, List, [], ◌∷◌, ◌++◌}
use Rattle.disk_mirror.specs.declared.pending.Pending.{Pending, Nothing, Also'}

abbrev pub pending_in : Pending → List (ℕ × ℕ)
pending_in Nothing = []
pending_in (Also' marker before at count) = pending_in before ++ (at.value, count.value) ∷ []
