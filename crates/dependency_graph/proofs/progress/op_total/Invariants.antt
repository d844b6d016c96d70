use Rattle.std.proofs.Common.{◌≡◌, ◌≤◌, ◌*◌}
use Rattle.rollout_rules.specs.Sums.{sum_below}
use Rattle.dependency_graph.specs.Graph.{count_of}
use Rattle.dependency_graph.proofs.progress.op_total.Given as goal

abbrev pub invariant-loop-item : goal.invariant-loop-item
invariant-loop-item l = record {
  total : l.total ≡ sum_below l.item (count_of l.progress.rollout);
  small : l.total ≤ l.item * 255;
}
