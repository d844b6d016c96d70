use Rattle.std.proofs.Common.{◌∙◌, ap, ap₂, arith}
use Rattle.rollout_rules.specs.Items.{is_item}
use Rattle.rollout_rules.specs.Operations.{changes_to}
use Rattle.rollout_rules.specs.Wan.{Rollout}
use Rattle.rollout_rules.specs.declared.item.Item.{Item}
use Rattle.rollout_rules.proofs.Numbers.{is_item-item_at}
use Rattle.rollback_plan.proofs.here.comes_to.Goals as goal

pub changes_to-up_to-requires-clause-item : goal.changes_to-up_to-requires-clause-item
changes_to-up_to-requires-clause-item c =
    let p = c.args.graph.now.rollout.problem in
    ap (λ (r : Rollout). is_item r.problem c.item.result) c.plan.ensures ∙ ap (is_item p) c.item.ensures ∙ is_item-item_at p c.args.item c.requires.item

pub returns : goal.returns
returns c =
    let up_to = c.changes_to-up_to.ensures ∙ ap₂ (λ (r : Rollout) (i : Item). changes_to r.problem r.plan i c.args.stage) c.plan.ensures c.item.ensures in
    omega (arith, c.max.ensures, c.begun-begun.ensures, up_to)
