use Rattle.std.proofs.Common.{◌≡◌, None}
use Rattle.plan_check.specs.FirstBroken.{bare}
use Rattle.plan_check.specs.First.{first_below}
use Rattle.plan_check.proofs.carried.bare_at.Given as goal

abbrev pub invariant-loop-t : goal.invariant-loop-t
invariant-loop-t l = first_below l.t (bare l.plan l.s) ≡ None
