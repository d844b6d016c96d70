use Rattle.std.proofs.Common.{◌≡◌}
use Rattle.rollout_rules.specs.Sums.{list_below}
use Rattle.dependency_graph.proofs.zeros.zeros.Given as goal

-- as many zeros as turns
abbrev pub invariant-loop-item : goal.invariant-loop-item
invariant-loop-item l = l.start.items ≡ list_below l._item (λ n. 0)
