use Rattle.std.proofs.Common.{◌≡◌}
use Rattle.rollout_rules.specs.Sums.{list_below}
use Rattle.rollout_rules.specs.History.{places_of}
use Rattle.retarget_plan.specs.Aiming.{aimed_rate}
use Rattle.retarget_plan.proofs.aimed_rows.aimed_rates.Given as goal

abbrev pub invariant-loop-tunnel : goal.invariant-loop-tunnel
invariant-loop-tunnel l = l.rates ≡ list_below l.tunnel (aimed_rate l.plan.problem l.plan.plan (places_of l.plan.problem l.graph.history) l.aim)
