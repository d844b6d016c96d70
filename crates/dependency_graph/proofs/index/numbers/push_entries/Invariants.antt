use Rattle.rollout_rules.specs.Items.{number_of}
use Rattle.rollout_rules.specs.declared.item.Item.TheVariants as item
use Rattle.dependency_graph.specs.Index.{AreItems}
use Rattle.dependency_graph.proofs.index.numbers.push_entries.Given as goal

abbrev pub invariant-loop-hop : goal.invariant-loop-hop
invariant-loop-hop l = AreItems l.plan.problem (number_of l.plan.problem (item.Entry l.t l.hop)) l.row
