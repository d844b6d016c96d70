use Rattle.std.proofs.Common.{◌≡◌, None}
use Rattle.plan_check.specs.FirstBroken.{bare_at}
use Rattle.plan_check.specs.First.{first_below}
use Rattle.plan_check.proofs.carried.first_bare.Given as goal

abbrev pub invariant-loop-s : goal.invariant-loop-s
invariant-loop-s l = first_below l.s (bare_at l.problem l.plan) ≡ None
