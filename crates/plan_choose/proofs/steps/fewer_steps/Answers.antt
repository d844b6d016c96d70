use Rattle.std.proofs.Common.{◌+◌, sym, ◌∙◌, arith}
use Rattle.plan_check.proofs.Firsts.{first_below_stops}
use Rattle.plan_choose.specs.Choice.{step_choice}
use Rattle.plan_choose.proofs.Choices.{step_choice-is, none_of_fewer}
use Rattle.plan_choose.proofs.steps.fewer_steps.Goals as goal

pub returns-in-Some : goal.returns-in-Some
returns-in-Some c =
    sym (first_below_stops (step_choice c.args.problem.now) (c.args.most + 1) c.loop-q.q _ c.loop-q-test.true c.loop-q.invariant
    (step_choice-is c.args.problem.now c.loop-q.q c.in-Some.plan (omega (arith, c.loop-q.auto.q)) (sym c.in_ok-plan.ensures ∙ c.in-Some.is)))

pub returns : goal.returns
returns c = sym (none_of_fewer (step_choice c.args.problem.now) c.loop-q.q (c.args.most + 1) c.loop-q-test.false c.loop-q.invariant)
