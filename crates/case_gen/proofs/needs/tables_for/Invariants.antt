use Rattle.case_gen.proofs.Counted.{AreCounts}
use Rattle.case_gen.proofs.needs.tables_for.Given as goal

abbrev pub invariant-loop-t : goal.invariant-loop-t
invariant-loop-t l = AreCounts l.problem l.tables.items l.t
