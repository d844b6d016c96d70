use Rattle.std.proofs.Common.{◌≡◌}
use Rattle.rollout_rules.specs.Items.{number_of}
use Rattle.rollout_rules.specs.declared.item.Item.TheVariants as item
use Rattle.wan_model.proofs.items.item_count.Given as goal

abbrev pub invariant-loop-t : goal.invariant-loop-t
invariant-loop-t l = l.count ≡ number_of l.problem (item.Entry l.t 0)
