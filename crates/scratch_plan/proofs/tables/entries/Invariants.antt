use Rattle.scratch_plan.proofs.Entries.{AreSums}
use Rattle.scratch_plan.proofs.tables.entries.Given as goal

abbrev pub invariant-loop-t : goal.invariant-loop-t
invariant-loop-t l = AreSums l.problem l.group l.sums.items l.t
