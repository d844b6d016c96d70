use Rattle.std.proofs.Common.{◌≡◌, ◌<◌, Some, length, sym, arith}
use Rattle.rollout_rules.specs.Items.{the_table}
use Rattle.rollout_rules.specs.declared.item.Spot.TheVariants as spot
use Rattle.plan_check.specs.FirstBroken.{over}
use Rattle.plan_check.proofs.Firsts.{first_below_stops}
use Rattle.plan_check.proofs.steps.over_table.Goals as goal

pub returns-in-Some : goal.returns-in-Some
returns-in-Some c =
    let p = c.args.problem.now in
    let plan = c.args.plan.now in
    let inside : c.loop-w.w < length p.switches = grind arith in
    let answers : over p plan c.args.s (the_table c.loop-w.w) (spot.Table c.loop-w.w) ≡ Some c.in-Some.broken = cc in
    sym (first_below_stops (λ w. over p plan c.args.s (the_table w) (spot.Table w)) (length p.switches) c.loop-w.w c.in-Some.broken inside c.loop-w.invariant answers)
