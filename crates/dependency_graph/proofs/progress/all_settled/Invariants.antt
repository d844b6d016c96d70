use Rattle.std.proofs.Common.{◌≡◌, true, slice_index, ◌==◌}
use Rattle.rollout_rules.specs.Sums.{all_below}
use Rattle.rollout_rules.specs.Items.{item_at}
use Rattle.rollout_rules.specs.Operations.{operations}
use Rattle.dependency_graph.proofs.progress.all_settled.Given as goal

abbrev pub invariant-loop-item : goal.invariant-loop-item
invariant-loop-item l = all_below l.item (λ n. slice_index l.progress.settled n == operations l.progress.rollout.problem l.progress.rollout.plan (item_at l.progress.rollout.problem n)) ≡ true
