use Rattle.dependency_graph.specs.Touched.{AreGathered}
use Rattle.dependency_graph.proofs.flow_row.gather.Given as goal

abbrev pub invariant-loop-j : goal.invariant-loop-j
invariant-loop-j l = AreGathered l.plan.problem l.f l.j 0 l.links l.scratch.items
