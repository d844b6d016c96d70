use Rattle.dependency_graph.specs.Chains.{AreFlowsAt}
use Rattle.dependency_graph.proofs.longest.flows_at.Given as goal

abbrev pub invariant-loop-f : goal.invariant-loop-f
invariant-loop-f l = AreFlowsAt l.plan.problem l.plan.plan l.s l.f l.rows.chains l.rows.own l.rows.steps
