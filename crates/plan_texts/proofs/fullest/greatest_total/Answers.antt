use Rattle.std.proofs.Common.{ℕ, ◌≡◌, ◌+◌, ◌<◌, length, ap, ◌∙◌, refl, arith}
use Rattle.rollout_rules.specs.Wan.{last_stage}
use Rattle.plan_texts.specs.Loads.{fullest_step}
use Rattle.plan_texts.specs.Rows.{cell}
use Rattle.plan_texts.proofs.Cells.{links-long, link-most}
use Rattle.plan_texts.proofs.fullest.greatest_total.Goals as goal

pub read-requires-clause-stage : goal.read-requires-clause-stage
read-requires-clause-stage c =
    omega (arith, (links-long c.args.problem.now c.args.plan.now c.args.rows.now.most 1 c.args.link (last_stage c.args.plan.now) c.requires.checked c.requires.most c.requires.link refl).count, c.fullest_step.ensures.inside)

pub read-requires-clause-place : goal.read-requires-clause-place
read-requires-clause-place c =
    (links-long c.args.problem.now c.args.plan.now c.args.rows.now.most 1 c.args.link (last_stage c.args.plan.now) c.requires.checked c.requires.most c.requires.link refl).each c.fullest_step.result (omega (arith, c.fullest_step.ensures.inside))

pub returns : goal.returns
returns c =
    let step = c.fullest_step.result in
    let p = c.args.problem.now in
    let plan = c.args.plan.now in
    let low : fullest_step p plan c.args.link < length plan.stages = omega (arith, c.fullest_step.ensures.inside, c.fullest_step.ensures.value, c.requires.checked.shape.some) in
    c.read.ensures ∙ ap (cell c.args.rows.now.most c.args.link) c.fullest_step.ensures.value
    ∙ link-most p plan c.requires.checked c.args.rows.now.most c.args.link (fullest_step p plan c.args.link) low c.requires.most c.requires.link
