use Rattle.std.proofs.Common.{◌≡◌, ◌≤◌}
use Rattle.rollout_rules.specs.declared.limits.TheConstants.{MOST_HOPS}
use Rattle.rollout_rules.specs.Sums.{least_below}
use Rattle.rollout_rules.specs.Wan.{tunnel_of}
use Rattle.fewest_plan.specs.Marked.{crossed}
use Rattle.fewest_plan.proofs.stuck.least_crossed.Given as goal

abbrev pub invariant-loop-j : goal.invariant-loop-j
invariant-loop-j l = record {
  value : l.least ≡ least_below l.j MOST_HOPS (λ j. crossed l.problem l.marks (tunnel_of l.problem l.f j));
  most : l.least ≤ MOST_HOPS;
}
