use Rattle.std.proofs.Common.{◌≡◌, ◌+◌, ◌≤◌, ◌==◌, get_or}
use Rattle.rollout_rules.specs.Sums.{count_below}
use Rattle.rollout_report.proofs.totals.flying_of_all.Given as goal

abbrev pub invariant-loop-item : goal.invariant-loop-item
invariant-loop-item l = record {
  count : l.count ≡ count_below l.item (λ n. get_or l.counts.begun n 0 == get_or l.counts.settled n 0 + 1);
  most : l.count ≤ l.item;
}
