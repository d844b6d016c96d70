use Rattle.std.proofs.Common.{◌≡◌, ◌<◌, Some, length, sym, arith}
use Rattle.rollout_rules.specs.Items.{the_link}
use Rattle.rollout_rules.specs.declared.item.Spot.TheVariants as spot
use Rattle.plan_check.specs.FirstBroken.{over}
use Rattle.plan_check.proofs.Firsts.{first_below_stops}
use Rattle.plan_check.proofs.steps.over_link.Goals as goal

pub returns-in-Some : goal.returns-in-Some
returns-in-Some c =
    let p = c.args.problem.now in
    let plan = c.args.plan.now in
    let inside : c.loop-l.l < length p.links = grind arith in
    let answers : over p plan c.args.s (the_link c.loop-l.l) (spot.Link c.loop-l.l) ≡ Some c.in-Some.broken = cc in
    sym (first_below_stops (λ l. over p plan c.args.s (the_link l) (spot.Link l)) (length p.links) c.loop-l.l c.in-Some.broken inside c.loop-l.invariant answers)
