use Rattle.std.proofs.Common.{◌≡◌, ◌-◌, ◌≤◌}
use Rattle.intent_journal.specs.Parts.{rows}
use Rattle.intent_journal.specs.Reading.{with_rows}
use Rattle.intent_journal.proofs.listed.Listed.add_rows.Given as goal

abbrev pub invariant-loop-row : goal.invariant-loop-row
invariant-loop-row l = record {
  within : l._row ≤ l.count;
  read : with_rows l.self (rows (l.count - l._row) l.rest) ≡ with_rows l.fn.self (rows l.count l.bytes);
}
