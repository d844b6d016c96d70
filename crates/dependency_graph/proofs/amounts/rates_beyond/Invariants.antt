use Rattle.std.proofs.Common.{◌≡◌, slice_index}
use Rattle.rollout_rules.specs.Sums.{sum_below}
use Rattle.dependency_graph.specs.Touched.{beyond}
use Rattle.dependency_graph.proofs.amounts.rates_beyond.Given as goal

abbrev pub invariant-loop-j : goal.invariant-loop-j
invariant-loop-j l = l.sum ≡ sum_below l.j (λ j. beyond l.plan.plan l.from l.to (slice_index l.tunnels j))
