use Rattle.std.proofs.Common.{ap, ◌∙◌, arith}
use Rattle.rollout_rules.specs.Wan.{last_stage}
use Rattle.plan_texts.specs.Loads.{greatest_at, link_total}
use Rattle.plan_texts.specs.Rows.{cell}
use Rattle.plan_texts.proofs.Cells.{links-long, link-most}
use Rattle.plan_texts.proofs.Greatest.{greatest-same}
use Rattle.plan_texts.proofs.fullest.fullest_step.Goals as goal

pub greatest_at-requires : goal.greatest_at-requires
greatest_at-requires c = links-long c.args.problem.now c.args.plan.now c.args.rows.now.most 1 c.args.link c.last_stage.result c.requires.checked c.requires.most c.requires.link c.last_stage.ensures

pub returns-clause-value : goal.returns-clause-value
returns-clause-value c =
    let p = c.args.problem.now in
    let plan = c.args.plan.now in
    let sums = cell c.args.rows.now.most c.args.link in
    c.greatest_at.ensures.value ∙ ap (greatest_at sums) c.last_stage.ensures
    ∙ greatest-same (last_stage plan) sums (link_total p plan c.args.link)
    (λ s lt. link-most p plan c.requires.checked c.args.rows.now.most c.args.link s (omega (arith, lt, c.requires.checked.shape.some)) c.requires.most c.requires.link)
