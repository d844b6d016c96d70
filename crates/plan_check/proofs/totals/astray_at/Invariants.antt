use Rattle.std.proofs.Common.{◌≡◌, None}
use Rattle.plan_check.specs.FirstBroken.{astray}
use Rattle.plan_check.specs.First.{first_below}
use Rattle.plan_check.proofs.totals.astray_at.Given as goal

abbrev pub invariant-loop-f : goal.invariant-loop-f
invariant-loop-f l = first_below l.f (astray l.problem l.plan l.s) ≡ None
