use Rattle.std.proofs.Common.{◌≡◌}
use Rattle.rollout_rules.specs.Items.{number_of}
use Rattle.rollout_rules.specs.declared.item.Item.TheVariants as item
use Rattle.dependency_graph.specs.Index.{AreFirstEntries}
use Rattle.dependency_graph.proofs.index.numbers.first_entries.Given as goal

abbrev pub invariant-loop-t : goal.invariant-loop-t
invariant-loop-t l = record {
  row : AreFirstEntries l.plan.problem l.t l.row;
  next : l.next ≡ number_of l.plan.problem (item.Entry l.t 0);
}
