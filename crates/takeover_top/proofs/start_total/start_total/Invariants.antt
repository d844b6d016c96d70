use Rattle.std.proofs.Common.{◌≡◌, ◌*◌, ◌≤◌, get_or}
use Rattle.rollout_rules.specs.Sums.{sum_below}
use Rattle.takeover_top.proofs.start_total.start_total.Given as goal

abbrev pub invariant-loop-item : goal.invariant-loop-item
invariant-loop-item l = record {
  total : l.total ≡ sum_below l.item (λ n. get_or l.start n 0);
  most : l.total ≤ 4294967295 * l.item;
}
