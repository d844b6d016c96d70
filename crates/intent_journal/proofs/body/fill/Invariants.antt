use Rattle.std.proofs.Common.{◌≡◌, ◌+◌, ◌*◌, ◌≤◌, ◌++◌, length}
use Rattle.std.specs.Prelude.{vec_capacity}
use Rattle.intent_journal.specs.Entries.{entry_rows}
use Rattle.intent_journal.specs.Parts.{batch_body, joined}
use Rattle.intent_journal.proofs.body.fill.Given as goal

abbrev pub invariant-loop-rest : goal.invariant-loop-rest
invariant-loop-rest l = record {
  bytes : l.body.items ++ joined (entry_rows l.rest) ≡ batch_body (entry_rows l.batch);
  room : length l.body.items + 9 * length l.rest + 1 ≤ vec_capacity l.body;
  capacity : vec_capacity l.fn.body ≤ vec_capacity l.body;
}

abbrev pub decreases-loop-rest : goal.decreases-loop-rest
decreases-loop-rest l = length l.rest
