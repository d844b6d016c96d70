use Rattle.std.proofs.Common.{◌≡◌, true}
use Rattle.rollout_rules.specs.Sums.{all_below}
use Rattle.dependency_graph.specs.Soundness.{had_its_needs}
use Rattle.dependency_graph.proofs.soundness.first_without_needs.Given as goal

abbrev pub invariant-loop-item : goal.invariant-loop-item
invariant-loop-item l = all_below l.item (had_its_needs l.plan l.progress) ≡ true
