use Rattle.std.proofs.Common.{◌≡◌, ◌≤◌}
use Rattle.std.specs.Prelude.{◌-◌}
use Rattle.rollout_rules.specs.History.{dones_in, settled}
use Rattle.rollout_rules.specs.Items.{item_count}
use Rattle.rollout_rules.specs.Sums.{list_below}
use Rattle.rollout_report.proofs.starts.start_before.Given as goal

abbrev pub invariant-loop-item : goal.invariant-loop-item
invariant-loop-item l = record {
  within : l.item ≤ l.item-end;
  end : l.item-end ≡ item_count l.graph.rollout.problem;
  settled : l.start.items ≡ list_below l.item (λ n. settled l.graph.history n - dones_in l.entries n);
}
