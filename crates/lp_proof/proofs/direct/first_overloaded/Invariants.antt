use Rattle.std.proofs.Common.{◌≡◌, None}
use Rattle.plan_check.specs.First.{first_below}
use Rattle.lp_proof.specs.Least.{overload_at}
use Rattle.lp_proof.proofs.direct.first_overloaded.Given as goal

abbrev pub invariant-loop-link : goal.invariant-loop-link
invariant-loop-link l = first_below l.link (overload_at l.problem) ≡ None
