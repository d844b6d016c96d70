use Rattle.std.proofs.Common.{◌≡◌}
use Rattle.rollout_rules.specs.Sums.{list_below}
use Rattle.retarget_plan.specs.Aiming.{capacity_times}
use Rattle.retarget_plan.proofs.aimed_rows.aimed_capacities.Given as goal

abbrev pub invariant-loop-link : goal.invariant-loop-link
invariant-loop-link l = l.capacities ≡ list_below l.link (capacity_times l.plan.problem l.aim l.factor)
