use Rattle.dependency_graph.specs.Index.{AreOperations}
use Rattle.dependency_graph.proofs.index.numbers.operations_of_all.Given as goal

abbrev pub invariant-loop-n : goal.invariant-loop-n
invariant-loop-n l = AreOperations l.plan l.n l.row
