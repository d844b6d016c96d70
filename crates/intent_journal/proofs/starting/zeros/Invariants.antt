use Rattle.std.proofs.Common.{◌≡◌, ◌≤◌}
use Rattle.rollout_rules.specs.Sums.{list_below}
use Rattle.intent_journal.proofs.starting.zeros.Given as goal

abbrev pub invariant-loop-number : goal.invariant-loop-number
invariant-loop-number l = record {
  within : l._number ≤ l.count;
  zeros : l.list.items ≡ list_below l._number (λ n. 0);
}
