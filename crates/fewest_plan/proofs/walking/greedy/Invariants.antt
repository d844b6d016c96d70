use Rattle.fewest_plan.proofs.Arrivals.{IsWalk}
use Rattle.fewest_plan.proofs.walking.greedy.Given as goal

abbrev pub invariant-loop-i : goal.invariant-loop-i
invariant-loop-i l = IsWalk l.problem l.scale l.order l.i l.shares.items l.rows
