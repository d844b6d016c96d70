use Rattle.std.proofs.Common.{length}
use Rattle.plan_check.specs.Parts.{load_share}
use Rattle.plan_check.proofs.Shares.{AreSums}
use Rattle.plan_check.proofs.sums.step_loads.Given as goal

abbrev pub invariant-loop-t : goal.invariant-loop-t
invariant-loop-t l = AreSums l.sums.items (length l.problem.links) l.t (load_share l.problem l.plan l.s)
