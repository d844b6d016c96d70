use Rattle.dependency_graph.specs.Index.{AreCrossingsTo}
use Rattle.dependency_graph.proofs.index.links.crossings.Given as goal

abbrev pub invariant-loop-t : goal.invariant-loop-t
invariant-loop-t l = AreCrossingsTo l.plan.problem l.t 0 l.rows.items
