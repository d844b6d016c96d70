use Rattle.std.proofs.Common.{◌≡◌}
use Rattle.rollout_rules.specs.Sums.{list_below}
use Rattle.rollback_plan.proofs.Turned.{left}
use Rattle.rollback_plan.proofs.here.turn_start.Given as goal

abbrev pub invariant-loop-item : goal.invariant-loop-item
invariant-loop-item l = l.start ≡ list_below l.item (left l.graph.rollout.problem l.graph.rollout.plan l.graph.history l.stage)
