use Rattle.dependency_graph.specs.Index.{AreTablesTo}
use Rattle.dependency_graph.proofs.index.tables.tables.Given as goal

abbrev pub invariant-loop-t : goal.invariant-loop-t
invariant-loop-t l = AreTablesTo l.plan.problem l.t 0 l.rows.items
