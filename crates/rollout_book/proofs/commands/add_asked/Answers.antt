use Rattle.std.proofs.Common.{◌≡◌, true, slice_index_or, sym, subst}
use Rattle.rollout_rules.specs.Items.{is_item}
use Rattle.rollout_rules.specs.World.{no_op}
use Rattle.rollout_rules.specs.declared.item.Item.TheVariants as item
use Rattle.rollout_rules.proofs.Numbers.{is_item-item_at}
use Rattle.rollout_book.proofs.commands.add_asked.Goals as goal

pub is_asked-requires : goal.is_asked-requires
is_asked-requires c =
    let p = c.args.graph.now.rollout.problem in
    let op = slice_index_or c.args.ops.now c.loop-op.op-index no_op in
    let flying = c.requires.flying c.loop-op.op-index no_op c.loop-op-test.true in
    subst (λ i. is_item p i ≡ true) (sym (c.requires.items.each op.item (item.Flow 0) flying.item)) (is_item-item_at p op.item flying.item)
