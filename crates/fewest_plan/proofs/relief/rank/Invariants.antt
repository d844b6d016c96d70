use Rattle.std.proofs.Common.{◌≡◌, ◌≤◌}
use Rattle.rollout_rules.specs.Sums.{count_below}
use Rattle.fewest_plan.specs.Relief.{comes_first}
use Rattle.fewest_plan.proofs.relief.rank.Given as goal

abbrev pub invariant-loop-g : goal.invariant-loop-g
invariant-loop-g l = record {
  value : l.sum ≡ count_below l.g (comes_first l.before l.after l.f);
  most : l.sum ≤ l.g;
}
