use Rattle.std.proofs.Common.{ℕ, ap, ap₂, ◌∙◌}
use Rattle.rollout_rules.specs.Wan.{Plan, Rollout}
use Rattle.rollout_rules.specs.Items.{item_count}
use Rattle.text_writer.proofs.Pushing.{said_so}
use Rattle.plan_texts.specs.Explain.{op_count, counts_line}
use Rattle.plan_texts.proofs.explaining.push_counts.Goals as goal

pub returns : goal.returns
returns g c =
    let r = c.args.plan.now in
    said_so g.P.Pieces.pushes
    (ap₂ (λ (a b : ℕ). counts_line a b c.last_stage-stages.result c.scale_of-scale.result) (c.item_count-items.ensures ∙ ap (λ (q : Rollout). item_count q.problem) c.requires) c.op_count-ops.ensures
    ∙ ap₂ (λ (a b : ℕ). counts_line (item_count r.problem) (op_count r.problem r.plan) a b) c.last_stage-stages.ensures.value (c.scale_of-scale.ensures ∙ ap (λ (q : Plan). q.scale) c.plan.ensures.part))
    c.push_sizes.ensures
