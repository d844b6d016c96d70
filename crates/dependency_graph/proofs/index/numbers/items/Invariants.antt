use Rattle.rollout_rules.specs.Items.{number_of}
use Rattle.rollout_rules.specs.declared.item.Item.TheVariants as item
use Rattle.dependency_graph.specs.Index.{AreItems}
use Rattle.dependency_graph.proofs.index.numbers.items.Given as goal

abbrev pub invariant-loop-t : goal.invariant-loop-t
invariant-loop-t l = AreItems l.plan.problem (number_of l.plan.problem (item.Entry l.t 0)) l.row
