use Rattle.dependency_graph.specs.Index.{AreCrossingsTo}
use Rattle.dependency_graph.proofs.index.links.push_tunnel.Given as goal

abbrev pub invariant-loop-k : goal.invariant-loop-k
invariant-loop-k l = AreCrossingsTo l.plan.problem l.t l.k l.rows.items
