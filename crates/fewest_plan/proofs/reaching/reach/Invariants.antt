use Rattle.std.proofs.Common.{◌≡◌, ◌≤◌}
use Rattle.rollout_rules.specs.Sums.{least_below}
use Rattle.fewest_plan.specs.Growth.{gain_at}
use Rattle.fewest_plan.specs.Greedy.{lets}
use Rattle.fewest_plan.proofs.reaching.reach.Given as goal

abbrev pub invariant-loop-i : goal.invariant-loop-i
invariant-loop-i l = record {
  value : l.far ≡ least_below l.i l.left (λ i. lets l.problem l.scale l.tops (gain_at l.gains i));
  most : l.far ≤ l.left;
}
