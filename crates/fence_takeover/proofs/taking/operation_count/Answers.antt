use Rattle.std.proofs.Common.{◌≡◌, ◌∙◌, true, sym, ap, subst}
use Rattle.rollout_rules.specs.Wan.{Problem}
use Rattle.rollout_rules.specs.Items.{is_item, item_at}
use Rattle.rollout_rules.specs.declared.item.Item.{Item}
use Rattle.rollout_rules.proofs.Numbers.{is_item-item_at}
use Rattle.fence_takeover.proofs.taking.operation_count.Goals as goal

pub operations-requires : goal.operations-requires
operations-requires c =
    let p = c.args.plan.now.problem in
    let is = c.item_at.ensures ∙ ap (λ (q : Problem). item_at q c.args.item) c.problem.ensures in
    subst (λ (i : Item). is_item p i ≡ true) (sym is) (is_item-item_at p c.args.item c.requires)
