use Rattle.std.proofs.Common.{◌≡◌, ◌*◌, ◌≤◌, if◌then◌else◌}
use Rattle.rollout_rules.specs.declared.limits.TheConstants.{LARGEST_RATE}
use Rattle.rollout_rules.specs.Sums.{sum_below}
use Rattle.rollout_rules.specs.Wan.{crosses}
use Rattle.lp_proof.specs.Shown.{greater_end}
use Rattle.lp_proof.proofs.direct.direct_load.Given as goal

abbrev pub invariant-loop-tunnel : goal.invariant-loop-tunnel
invariant-loop-tunnel l =
    (l.sum ≡ sum_below l.tunnel (λ t. if crosses l.problem t l.link then greater_end l.problem t else 0)) × (l.sum ≤ l.tunnel * LARGEST_RATE)
