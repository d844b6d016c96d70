use Rattle.std.proofs.Common.{◌≡◌, None}
use Rattle.rollout_rules.specs.Items.{the_link}
use Rattle.rollout_rules.specs.declared.item.Spot.TheVariants as spot
use Rattle.plan_check.specs.FirstBroken.{over}
use Rattle.plan_check.specs.First.{first_below}
use Rattle.plan_check.proofs.steps.over_link.Given as goal

abbrev pub invariant-loop-l : goal.invariant-loop-l
invariant-loop-l l = first_below l.l (λ k. over l.problem l.plan l.s (the_link k) (spot.Link k)) ≡ None
