use Rattle.std.proofs.Common.{length}
use Rattle.plan_check.specs.Parts.{rate_share}
use Rattle.plan_check.proofs.Shares.{AreSums}
use Rattle.fewest_plan.specs.Greedy.{rate_after}
use Rattle.fewest_plan.proofs.stepping.tops.Given as goal

abbrev pub invariant-loop-t : goal.invariant-loop-t
invariant-loop-t l =
    AreSums l.sums.items (length l.problem.links) l.t (rate_share l.problem (rate_after l.problem l.scale l.shares))
