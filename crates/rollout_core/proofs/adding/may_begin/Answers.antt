use Rattle.std.proofs.Common.{◌<◌, ◌∙◌, sym, subst}
use Rattle.rollout_rules.specs.Wan.{Rollout, last_stage}
use Rattle.rollout_rules.specs.Items.{item_count}
use Rattle.dependency_graph.specs.Ahead.{stand_with}
use Rattle.rollout_core.proofs.Counted.{next-inside, next-left}
use Rattle.rollout_core.proofs.adding.may_begin.Goals as goal

pub needs_met-requires-clause-item : goal.needs_met-requires-clause-item
needs_met-requires-clause-item c =
    let next = sym c.is_next.ensures ∙ c.if-not-is_next.false in
    subst (λ (r : Rollout). c.args.op.item < item_count r.problem) (sym c.requires) (next-inside c.args.progress.now c.args.ahead.now c.args.op next)

pub needs_met-requires-clause-left : goal.needs_met-requires-clause-left
needs_met-requires-clause-left c =
    let next = sym c.is_next.ensures ∙ c.if-not-is_next.false in
    subst (λ (r : Rollout). stand_with r c.args.progress.now c.args.ahead.now c.args.op.item < last_stage r.plan) (sym c.requires) (next-left c.args.progress.now c.args.ahead.now c.args.op next)
