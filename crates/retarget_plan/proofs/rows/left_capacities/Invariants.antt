use Rattle.std.proofs.Common.{◌≡◌}
use Rattle.rollout_rules.specs.Sums.{list_below}
use Rattle.retarget_plan.specs.Left.{scaled_capacity}
use Rattle.retarget_plan.proofs.rows.left_capacities.Given as goal

abbrev pub invariant-loop-link : goal.invariant-loop-link
invariant-loop-link l = l.capacities ≡ list_below l.link (scaled_capacity l.plan.problem l.factor)
