use Rattle.std.proofs.Common.{◌≡◌}
use Rattle.rollout_rules.specs.Sums.{list_below}
use Rattle.retarget_plan.specs.Left.{scaled_target}
use Rattle.retarget_plan.proofs.rows.left_targets.Given as goal

abbrev pub invariant-loop-tunnel : goal.invariant-loop-tunnel
invariant-loop-tunnel l = l.rates ≡ list_below l.tunnel (scaled_target l.plan.problem l.factor)
