use Rattle.std.proofs.Common.{◌≡◌, true, []}
use Rattle.rollout_rules.specs.Sums.{all_below}
use Rattle.dependency_graph.specs.Ahead.{places_with}
use Rattle.dependency_graph.specs.FirstFault.{has_room_for}
use Rattle.dependency_graph.proofs.soundness.first_over.Given as goal

abbrev pub invariant-loop-resource : goal.invariant-loop-resource
invariant-loop-resource l = all_below l.resource (has_room_for l.plan.problem l.plan.plan (places_with l.plan l.progress []) l.stage) ≡ true
