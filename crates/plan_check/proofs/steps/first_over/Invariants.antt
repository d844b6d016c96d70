use Rattle.std.proofs.Common.{◌≡◌, None}
use Rattle.plan_check.specs.FirstBroken.{over_step}
use Rattle.plan_check.specs.First.{first_below}
use Rattle.plan_check.proofs.steps.first_over.Given as goal

abbrev pub invariant-loop-s : goal.invariant-loop-s
invariant-loop-s l = first_below l.s (over_step l.problem l.plan) ≡ None
