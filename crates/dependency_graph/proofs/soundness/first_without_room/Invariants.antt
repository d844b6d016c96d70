use Rattle.std.proofs.Common.{◌≡◌, true, []}
use Rattle.rollout_rules.specs.Sums.{all_below}
use Rattle.dependency_graph.specs.Ahead.{places_with}
use Rattle.dependency_graph.specs.FirstFault.{has_room_at}
use Rattle.dependency_graph.proofs.soundness.first_without_room.Given as goal

abbrev pub invariant-loop-stage : goal.invariant-loop-stage
invariant-loop-stage l = all_below l.stage (has_room_at l.plan.problem l.plan.plan (places_with l.plan l.progress [])) ≡ true
