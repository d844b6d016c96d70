use Rattle.std.proofs.Common.{◌≡◌, ◌-◌, ◌*◌, ◌≤◌}
use Rattle.rollout_rules.specs.History.{settled}
use Rattle.rollout_rules.specs.Items.{item_at}
use Rattle.rollout_rules.specs.Operations.{operations}
use Rattle.rollout_rules.specs.Sums.{sum_below}
use Rattle.dependency_graph.proofs.graph.Graph.unsettled.Given as goal

abbrev pub invariant-loop-item : goal.invariant-loop-item
invariant-loop-item l = record {
  sum : l.left ≡ sum_below l.item (λ n. operations l.self.rollout.problem l.self.rollout.plan (item_at l.self.rollout.problem n) - settled l.self.history n);
  most : l.left ≤ 4294967295 * l.item;
}
