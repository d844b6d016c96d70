use Rattle.std.proofs.Common.{is_some, sym, ap, ◌∙◌}
use Rattle.fraction_lp.specs.Dictionary.{end_of}
use Rattle.fraction_lp.specs.declared.answer.LpAnswer.TheVariants.{Point}
use Rattle.plan_choose.specs.Choice.{where_valid}
use Rattle.plan_choose.proofs.Choices.{told_as, step_plan-large, step_plan-small, pointless}
use Rattle.plan_choose.proofs.steps.step_plan.Goals as goal

pub returns-then-is_none : goal.returns-then-is_none
returns-then-is_none c = sym (step_plan-large c.args.problem.now c.args.q (ap is_some (sym c.cells.ensures) ∙ c.if-is_none.ensures))

pub returns-in-Point : goal.returns-in-Point
returns-in-Point c =
    told_as c.point_plan.result _ _ c.point_plan.ensures
    (sym (step_plan-small c.args.problem.now c.args.q (ap is_some (sym c.cells.ensures) ∙ c.if-is_none.ensures) (Point c.in-Point.point) (ap end_of (sym c.in_ok-rows.ensures) ∙ c.in-Point.ensures.end)))

pub returns : goal.returns
returns c =
    let p = c.args.problem.now in
    let q = c.args.q in
    sym (step_plan-small p q (ap is_some (sym c.cells.ensures) ∙ c.if-is_none.ensures) (end_of c.in_ok-rows.rows) (ap end_of (sym c.in_ok-rows.ensures))
    ∙ ap (where_valid p) (pointless p q c.solve.result (end_of c.in_ok-rows.rows) c.in_default.not-Point c.in_default.not-Memory c.solve.ensures.end))
