-- What was taken of a file since it was opened.
use Rattle.std.specs.Prelude.{ℕ, List, [], Option, Some, None}
use Rattle.host_edge.specs.declared.tap.Tap.{Tap}

abbrev pub taken_in : {R : Type 0} → Option (Tap R) → List ℕ
taken_in None = []
taken_in (Some tap) = tap.taken
