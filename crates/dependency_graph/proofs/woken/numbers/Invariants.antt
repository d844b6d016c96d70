use Rattle.dependency_graph.specs.Wakes.{AreNumbers}
use Rattle.dependency_graph.proofs.woken.numbers.Given as goal

abbrev pub invariant-loop-n : goal.invariant-loop-n
invariant-loop-n l = AreNumbers l.n l.row.items
