use Rattle.std.proofs.Common.{◌<◌, length, sym, ap, ap₂, ◌∙◌, arith}
use Rattle.plan_check.specs.First.{first_of}
use Rattle.plan_check.proofs.Firsts.{first_below_stops}
use Rattle.rollout_rules.specs.Items.{entries_at}
use Rattle.rollout_rules.specs.Slack.{was_installed, is_wanted_or_carrying}
use Rattle.scratch_plan.specs.Refusals.{overfull}
use Rattle.scratch_plan.proofs.tables.first_full.Goals as goal

pub returns-in-Some : goal.returns-in-Some
returns-in-Some c =
    let p = c.args.problem.now in
    let w = c.loop-w.w in
    let inside : w < length p.switches = omega (arith, ap length c.switches-w-end.ensures.list, c.loop-w-test.true) in
    let there = ap₂ (λ x y. first_of (overfull p w x) (overfull p w y)) (c.requires.first.each w inside) (c.requires.moving.each w inside) in
    sym (first_below_stops (λ v. first_of (overfull p v (entries_at p (was_installed p) v)) (overfull p v (entries_at p (is_wanted_or_carrying p) v))) (length p.switches) w c.in-Some.cause
    inside c.loop-w.invariant (sym there ∙ sym c.full_at.ensures ∙ c.in-Some.is))
