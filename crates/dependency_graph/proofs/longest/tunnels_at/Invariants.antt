use Rattle.dependency_graph.specs.Chains.{AreTunnelsAt}
use Rattle.dependency_graph.proofs.longest.tunnels_at.Given as goal

abbrev pub invariant-loop-t : goal.invariant-loop-t
invariant-loop-t l = AreTunnelsAt l.plan.problem l.plan.plan l.s l.t l.rows.chains l.rows.own l.rows.departures l.rows.arrivals
