use Rattle.std.proofs.Common.{◌≡◌, ◌≤◌, ◌*◌}
use Rattle.rollout_rules.specs.declared.limits.TheConstants.{LARGEST_RATE, MOST_HOPS}
use Rattle.rollout_rules.specs.Sums.{sum_below}
use Rattle.rollout_rules.specs.Wan.{tunnel_of}
use Rattle.fewest_plan.specs.Marked.{borne_by}
use Rattle.fewest_plan.proofs.marked.borne.Given as goal

abbrev pub invariant-loop-j : goal.invariant-loop-j
invariant-loop-j l = record {
  value : l.sum ≡ sum_below l.j (λ j. borne_by l.problem l.marks l.side (tunnel_of l.problem l.f j));
  most : l.sum ≤ l.j * (LARGEST_RATE * MOST_HOPS);
}
