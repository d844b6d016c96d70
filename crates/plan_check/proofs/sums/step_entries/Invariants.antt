use Rattle.std.proofs.Common.{length}
use Rattle.plan_check.specs.Parts.{entry_share}
use Rattle.plan_check.proofs.Shares.{AreSums}
use Rattle.plan_check.proofs.sums.step_entries.Given as goal

abbrev pub invariant-loop-t : goal.invariant-loop-t
invariant-loop-t l = AreSums l.sums.items (length l.problem.switches) l.t (entry_share l.problem l.plan l.s)
