use Rattle.std.proofs.Common.{◌≡◌, ◌==◌, ◌+◌, not, max, if◌then◌else◌}
use Rattle.rollout_rules.specs.Wan.{rate_at, tunnel_of}
use Rattle.rollout_rules.specs.Release.{most_below}
use Rattle.dependency_graph.specs.Chains.{longest_departure}
use Rattle.dependency_graph.proofs.longest.flow_chain.Given as goal

abbrev pub invariant-loop-j : goal.invariant-loop-j
invariant-loop-j l = l.most ≡ max l.own (most_below l.j (λ j. if not (rate_at l.plan.plan l.s (tunnel_of l.plan.problem l.f j) == 0) then longest_departure l.plan.problem l.plan.plan (tunnel_of l.plan.problem l.f j) (l.s + 1) else 0))
