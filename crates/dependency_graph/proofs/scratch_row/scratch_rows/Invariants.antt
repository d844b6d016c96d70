use Rattle.dependency_graph.specs.Index.{AreEmpty}
use Rattle.dependency_graph.proofs.scratch_row.scratch_rows.Given as goal

abbrev pub invariant-loop-row : goal.invariant-loop-row
invariant-loop-row l = AreEmpty l._row l.rows.items
