use Rattle.std.proofs.Common.{◌≡◌}
use Rattle.rollout_rules.specs.History.{places_of}
use Rattle.rollout_rules.specs.Safe.{settled_rate}
use Rattle.retarget_plan.specs.Units.{divisor_below}
use Rattle.retarget_plan.proofs.units.divisor_of.Given as goal

abbrev pub invariant-loop-tunnel : goal.invariant-loop-tunnel
invariant-loop-tunnel l = l.divisor ≡ divisor_below l.tunnel l.plan.plan.scale (settled_rate l.plan.problem l.plan.plan (places_of l.plan.problem l.graph.history))
