use Rattle.dependency_graph.specs.Index.{AreEmpty}
use Rattle.dependency_graph.proofs.index.many_rows.empty_rows.Given as goal

abbrev pub invariant-loop-row : goal.invariant-loop-row
invariant-loop-row g l = AreEmpty l._row l.rows.items
