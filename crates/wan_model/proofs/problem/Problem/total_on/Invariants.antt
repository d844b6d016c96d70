use Rattle.std.proofs.Common.{◌≡◌, ◌≤◌, ◌*◌, unwrap_or}
use Rattle.rollout_rules.specs.declared.limits.TheConstants.{LARGEST_RATE}
use Rattle.rollout_rules.specs.Sums.{sum_below}
use Rattle.rollout_rules.specs.Wan.{tunnel_at, tunnel_of}
use Rattle.wan_model.specs.Sides.{rate_on}
use Rattle.wan_model.proofs.problem.Problem.total_on.Given as goal

abbrev pub invariant-loop-j : goal.invariant-loop-j
invariant-loop-j l = record {
  value : l.sum ≡ sum_below l.j (λ j. unwrap_or (rate_on l.side (tunnel_at l.self (tunnel_of l.self l.flow j))) 0);
  most : l.sum ≤ l.j * LARGEST_RATE;
}
