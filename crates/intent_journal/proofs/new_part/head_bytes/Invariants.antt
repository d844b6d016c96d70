use Rattle.std.proofs.Common.{◌≡◌, ◌++◌, length}
use Rattle.disk_model.specs.Numbers.{bytes_4}
use Rattle.intent_journal.specs.Parts.{number_bytes}
use Rattle.intent_journal.specs.States.{AreSmall}
use Rattle.intent_journal.proofs.new_part.head_bytes.Given as goal

abbrev pub invariant-loop-rest : goal.invariant-loop-rest
invariant-loop-rest l = record {
  built : l.head.items ++ number_bytes l.rest ≡ l.digest.bytes ++ (bytes_4 l.digest.migration ++ (bytes_4 (length l.starts) ++ number_bytes l.starts));
  small : AreSmall l.rest → AreSmall l.starts;
}

abbrev pub decreases-loop-rest : goal.decreases-loop-rest
decreases-loop-rest l = length l.rest
