use Rattle.dependency_graph.specs.Touched.{AreGathered}
use Rattle.dependency_graph.proofs.flow_row.gather_tunnel.Given as goal

abbrev pub invariant-loop-k : goal.invariant-loop-k
invariant-loop-k l = AreGathered l.plan.problem l.f l.j l.k l.links l.scratch.items
