use Rattle.std.proofs.Common.{◌∙◌, vec_capacity, ap}
use Rattle.rollout_rules.specs.Wan.{Rollout}
use Rattle.rollout_rules.specs.Items.{item_count}
use Rattle.update_scheduler.proofs.Turning.{first-turning}
use Rattle.update_scheduler.proofs.rounds.first_parts.Goals as goal

pub returns-clause-turning : goal.returns-clause-turning
returns-clause-turning c =
    first-turning c.args.graph.now c.in_ok-new.field-0 c.in_ok-new-2.field-0 c.in_ok-new-3.field-0 c.in_ok-with_capacity.field-0.items (vec_capacity c.in_ok-with_capacity.field-0) c.item_count-items.result c.requires.legal
    c.in_ok-new.ensures c.in_ok-new-2.ensures c.in_ok-new-3.ensures c.in_ok-with_capacity.ensures.items
    (c.item_count-items.ensures ∙ ap item_count (c.problem.ensures ∙ ap (λ (r : Rollout). r.problem) c.plan.ensures)) c.in_ok-with_capacity.ensures.exact
