use Rattle.std.proofs.Common.{◌≡◌, None}
use Rattle.plan_check.specs.First.{first_below}
use Rattle.retarget_top.specs.Aims.{named_at}
use Rattle.retarget_top.proofs.aims.link_named.Given as goal

abbrev pub invariant-loop-link : goal.invariant-loop-link
invariant-loop-link l = first_below l.link (named_at l.problem l.name) ≡ None
