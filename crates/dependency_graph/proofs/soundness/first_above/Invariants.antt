use Rattle.std.proofs.Common.{◌≡◌, true}
use Rattle.rollout_rules.specs.Sums.{all_below}
use Rattle.dependency_graph.specs.Soundness.{has_settled}
use Rattle.dependency_graph.proofs.soundness.first_above.Given as goal

abbrev pub invariant-loop-item : goal.invariant-loop-item
invariant-loop-item l = all_below l.item (has_settled l.plan l.progress) ≡ true
