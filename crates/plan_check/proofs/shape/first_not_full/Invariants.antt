use Rattle.std.proofs.Common.{◌≡◌, None}
use Rattle.plan_check.specs.FirstBroken.{not_full}
use Rattle.plan_check.specs.First.{first_below}
use Rattle.plan_check.proofs.shape.first_not_full.Given as goal

abbrev pub invariant-loop-s : goal.invariant-loop-s
invariant-loop-s l = first_below l.s (not_full l.problem l.plan) ≡ None
