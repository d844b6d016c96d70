use Rattle.dependency_graph.specs.Index.{AreTablesTo}
use Rattle.dependency_graph.proofs.index.tables.push_entries.Given as goal

abbrev pub invariant-loop-hop : goal.invariant-loop-hop
invariant-loop-hop l = AreTablesTo l.plan.problem l.t l.hop l.rows.items
