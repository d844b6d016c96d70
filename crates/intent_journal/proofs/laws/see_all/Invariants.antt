use Rattle.std.proofs.Common.{length}
use Rattle.intent_journal.specs.Entries.{AllSmall}
use Rattle.intent_journal.proofs.laws.see_all.Given as goal

abbrev pub invariant-loop-rest : goal.invariant-loop-rest
invariant-loop-rest l = record {
  small : AllSmall l.rest → AllSmall l.entries;
}

abbrev pub decreases-loop-rest : goal.decreases-loop-rest
decreases-loop-rest l = length l.rest
