use Rattle.std.proofs.Common.{◌≡◌, ◌≤◌}
use Rattle.rollout_rules.specs.History.{settled}
use Rattle.rollout_rules.specs.Items.{item_count}
use Rattle.rollout_rules.specs.Sums.{list_below}
use Rattle.intent_journal.proofs.placing.settled_start.Given as goal

abbrev pub invariant-loop-item : goal.invariant-loop-item
invariant-loop-item l = record {
  within : l.item ≤ l.item-end;
  end : l.item-end ≡ item_count l.graph.rollout.problem;
  settled : l.start.items ≡ list_below l.item (settled l.graph.history);
}
