-- What was written to the file that a log has.
use Rattle.std.specs.Prelude.{ℕ, List, [], Option, Some, None}
use Rattle.host_edge.specs.declared.pen.Pen.{Pen}

abbrev pub written_in : {W : Type 0} → Option (Pen W) → List ℕ
written_in None = []
written_in (Some pen) = pen.written
