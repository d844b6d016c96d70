use Rattle.std.proofs.Common.{◌≡◌, true, subst, sym}
use Rattle.rollout_rules.specs.Items.{is_item}
use Rattle.rollout_rules.proofs.Numbers.{is_item-item_at}
use Rattle.wan_model.proofs.items.home_of.Goals as goal

pub home_of_item-requires : goal.home_of_item-requires
home_of_item-requires c = subst (λ i. is_item c.args.problem.now i ≡ true) (sym c.item_at.ensures) (is_item-item_at c.args.problem.now c.args.number c.requires)
