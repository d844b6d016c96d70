use Rattle.std.proofs.Common.{◌≡◌}
use Rattle.rollout_rules.specs.Sums.{least_below}
use Rattle.rollout_rules.specs.Wan.{last_stage}
use Rattle.dependency_graph.specs.Ahead.{stand_with}
use Rattle.dependency_graph.proofs.progress.room.least_stage.Given as goal

abbrev pub invariant-loop-item : goal.invariant-loop-item
invariant-loop-item l = l.least ≡ least_below l.item (last_stage l.plan.plan) (stand_with l.plan l.progress l.ahead)
