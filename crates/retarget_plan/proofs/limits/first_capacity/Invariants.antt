use Rattle.std.proofs.Common.{◌≡◌, None}
use Rattle.plan_check.specs.First.{first_below}
use Rattle.retarget_plan.specs.Leaving.{large_capacity}
use Rattle.retarget_plan.proofs.limits.first_capacity.Given as goal

abbrev pub invariant-loop-l : goal.invariant-loop-l
invariant-loop-l l = first_below l.l (large_capacity l.capacities) ≡ None
