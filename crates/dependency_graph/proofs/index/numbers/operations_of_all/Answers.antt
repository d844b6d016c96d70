use Rattle.std.proofs.Common.{◌<◌, ◌∙◌, ap, arith}
use Rattle.rollout_rules.specs.Items.{is_item, item_count}
use Rattle.rollout_rules.specs.declared.item.Item.TheVariants as item
use Rattle.rollout_rules.proofs.Numbers.{is_item-item_at}
use Rattle.dependency_graph.proofs.index.numbers.operations_of_all.Goals as goal

pub operations-requires : goal.operations-requires
operations-requires c =
    let p = c.args.plan.now.problem in
    let lt : c.loop-n.n < item_count p = omega (arith, c.requires.count) in
    ap (is_item p) (c.requires.each c.loop-n.n (item.Flow 0) lt) ∙ is_item-item_at p c.loop-n.n lt
