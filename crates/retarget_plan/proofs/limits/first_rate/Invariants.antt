use Rattle.std.proofs.Common.{◌≡◌, None}
use Rattle.plan_check.specs.First.{first_below}
use Rattle.retarget_plan.specs.Leaving.{large_rate}
use Rattle.retarget_plan.proofs.limits.first_rate.Given as goal

abbrev pub invariant-loop-t : goal.invariant-loop-t
invariant-loop-t l = first_below l.t (large_rate l.row l.rates) ≡ None
