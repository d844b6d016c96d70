use Rattle.dependency_graph.specs.Touched.{AreCrossingsOf, AreTakenOut}
use Rattle.dependency_graph.proofs.flow_row.taken_out.Given as goal

abbrev pub invariant-loop-k : goal.invariant-loop-k
invariant-loop-k l = record {
  row : AreCrossingsOf l.plan.problem l.f l.k (record { resources = l.fn.links; tunnels = l.tunnels; bounds = l.bounds });
  scratch : AreTakenOut l.plan.problem l.fn.links l.k l.initial.scratch.items l.scratch.items;
}
