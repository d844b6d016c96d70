use Rattle.std.proofs.Common.{length}
use Rattle.plan_check.proofs.Shares.{AreSums}
use Rattle.fewest_plan.specs.Growth.{part_at}
use Rattle.fewest_plan.proofs.growing.growths.Given as goal

abbrev pub invariant-loop-j : goal.invariant-loop-j
invariant-loop-j l = AreSums l.sums.items (length l.problem.links) l.j (part_at l.problem l.f)
