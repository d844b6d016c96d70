use Rattle.std.proofs.Common.{◌≡◌, true, ◌+◌, ◌==◌}
use Rattle.rollout_rules.specs.Sums.{all_below}
use Rattle.rollout_rules.specs.Wan.{rate_at, tunnel_of}
use Rattle.dependency_graph.proofs.changes.rates_change.Given as goal

abbrev pub invariant-loop-j : goal.invariant-loop-j
invariant-loop-j l = all_below l.j (λ j. rate_at l.plan.plan l.s (tunnel_of l.plan.problem l.f j) == rate_at l.plan.plan (l.s + 1) (tunnel_of l.plan.problem l.f j)) ≡ true
