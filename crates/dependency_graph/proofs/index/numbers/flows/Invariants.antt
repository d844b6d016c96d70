use Rattle.dependency_graph.specs.Index.{AreItems}
use Rattle.dependency_graph.proofs.index.numbers.flows.Given as goal

abbrev pub invariant-loop-f : goal.invariant-loop-f
invariant-loop-f l = AreItems l.plan.problem l.f l.row
