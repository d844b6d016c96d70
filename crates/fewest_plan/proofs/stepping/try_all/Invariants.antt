use Rattle.fewest_plan.proofs.Trying.{AreTried}
use Rattle.fewest_plan.proofs.stepping.try_all.Given as goal

abbrev pub invariant-loop-i : goal.invariant-loop-i
invariant-loop-i l = AreTried l.problem l.scale l.order l.initial.shares l.i l.tops l.shares
