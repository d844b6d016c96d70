use Rattle.dependency_graph.specs.Chains.{AreChainsFrom}
use Rattle.dependency_graph.proofs.chains.add_stages.Given as goal

abbrev pub invariant-loop-turn : goal.invariant-loop-turn
invariant-loop-turn l = AreChainsFrom l.plan.problem l.plan.plan l.turn l.rows.flows l.rows.tunnels l.rows.ahead.flows l.rows.ahead.own l.rows.ahead.departures l.rows.ahead.arrivals
