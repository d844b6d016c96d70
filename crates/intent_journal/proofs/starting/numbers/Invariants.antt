use Rattle.std.proofs.Common.{◌≡◌, ◌-◌, ◌≤◌, ◌++◌}
use Rattle.intent_journal.specs.Parts as parts
use Rattle.intent_journal.proofs.starting.numbers.Given as goal

abbrev pub invariant-loop-number : goal.invariant-loop-number
invariant-loop-number l = record {
  within : l._number ≤ l.count;
  read : l.list.items ++ parts.numbers (l.count - l._number) l.rest ≡ parts.numbers l.count l.bytes;
}
