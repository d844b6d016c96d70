use Rattle.std.proofs.Common.{◌∙◌, ap}
use Rattle.rollout_rules.specs.Wan.{Rollout}
use Rattle.rollout_rules.specs.Items.{is_item}
use Rattle.rollout_rules.proofs.Numbers.{is_item-item_at}
use Rattle.rollback_plan.proofs.reaching.is_level.Goals as goal

pub changes_to-up_to-requires-clause-item : goal.changes_to-up_to-requires-clause-item
changes_to-up_to-requires-clause-item c =
    let p = c.args.graph.now.rollout.problem in
    ap (λ (r : Rollout). is_item r.problem c.item.result) c.plan.ensures ∙ ap (is_item p) c.item.ensures ∙ is_item-item_at p c.args.item c.requires.item
