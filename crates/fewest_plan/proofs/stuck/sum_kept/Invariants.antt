use Rattle.std.proofs.Common.{◌≡◌, ◌≤◌, ◌*◌}
use Rattle.rollout_rules.specs.declared.limits.TheConstants.{LARGEST_RATE, MOST_HOPS, MOST_TUNNELS_OF_FLOW}
use Rattle.rollout_rules.specs.Sums.{sum_below}
use Rattle.fewest_plan.specs.Stuck.{kept_by}
use Rattle.fewest_plan.proofs.stuck.sum_kept.Given as goal

abbrev pub invariant-loop-f : goal.invariant-loop-f
invariant-loop-f l = record {
  value : l.sum ≡ sum_below l.f (kept_by l.problem l.marks);
  small : l.sum ≤ l.f * (MOST_HOPS * (MOST_TUNNELS_OF_FLOW * LARGEST_RATE));
}
