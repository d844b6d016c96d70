use Rattle.std.proofs.Common.{◌≡◌, None}
use Rattle.rollout_rules.specs.Items.{the_table}
use Rattle.rollout_rules.specs.declared.item.Spot.TheVariants as spot
use Rattle.plan_check.specs.FirstBroken.{over}
use Rattle.plan_check.specs.First.{first_below}
use Rattle.plan_check.proofs.steps.over_table.Given as goal

abbrev pub invariant-loop-w : goal.invariant-loop-w
invariant-loop-w l = first_below l.w (λ k. over l.problem l.plan l.s (the_table k) (spot.Table k)) ≡ None
