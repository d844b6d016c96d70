use Rattle.std.proofs.Common.{length}
use Rattle.plan_check.specs.Parts.{rate_share}
use Rattle.plan_check.proofs.Shares.{AreSums}
use Rattle.plan_texts.specs.Rows.{larger_at}
use Rattle.plan_texts.proofs.sums.wide_loads.Given as goal

abbrev pub invariant-loop-t : goal.invariant-loop-t
invariant-loop-t l = AreSums l.sums.items (length l.problem.links) l.t (rate_share l.problem (larger_at l.plan l.here l.next))
