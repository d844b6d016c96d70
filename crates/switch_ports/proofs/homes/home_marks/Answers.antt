use Rattle.std.proofs.Common.{◌≡◌, ◌<◌, List, length, get_or, ap, ◌∙◌, arith}
use Rattle.rollout_rules.specs.Items.{is_item, item_at, item_count}
use Rattle.rollout_rules.specs.declared.item.Item.{Item}
use Rattle.rollout_rules.specs.declared.item.Item.TheVariants as variants
use Rattle.rollout_rules.proofs.Numbers.{is_item-item_at}
use Rattle.switch_ports.proofs.homes.home_marks.Goals as goal

pub mark_home-requires-clause-item : goal.mark_home-requires-clause-item
mark_home-requires-clause-item c =
    let p = c.args.plan.now.problem in
    let n = c.loop-item.item-index in
    let listed = c.in_ok-items.ensures.list in
    let lt : n < item_count p = omega (arith, c.loop-item-test.true, listed.count, ap (λ (row : List Item). length row) c.as_slice-item-items.ensures) in
    let is : get_or c.as_slice-item-items.result.now n (variants.Flow 0) ≡ item_at p n =
    ap (λ (row : List Item). get_or row n (variants.Flow 0)) c.as_slice-item-items.ensures ∙ listed.each n (variants.Flow 0) lt in
    ap (is_item p) is ∙ is_item-item_at p n lt
