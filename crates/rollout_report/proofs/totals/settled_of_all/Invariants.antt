use Rattle.std.proofs.Common.{◌≡◌, ◌*◌, ◌≤◌, get_or}
use Rattle.rollout_rules.specs.Sums.{sum_below}
use Rattle.rollout_report.proofs.totals.settled_of_all.Given as goal

abbrev pub invariant-loop-item : goal.invariant-loop-item
invariant-loop-item l = record {
  sum : l.sum ≡ sum_below l.item (λ n. get_or l.counts.settled n 0);
  most : l.sum ≤ 18446744073709551615 * l.item;
}
