use Rattle.std.proofs.Common.{length}
use Rattle.plan_check.proofs.Shares.{AreSums}
use Rattle.plan_texts.specs.Rows.{either_at, entry_share}
use Rattle.plan_texts.proofs.sums.wide_entries.Given as goal

abbrev pub invariant-loop-t : goal.invariant-loop-t
invariant-loop-t l = AreSums l.sums.items (length l.problem.switches) l.t (entry_share l.problem (either_at l.plan l.here l.next))
