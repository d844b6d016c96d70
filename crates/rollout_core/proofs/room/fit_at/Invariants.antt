use Rattle.std.proofs.Common.{◌≡◌, true, nat_le}
use Rattle.rollout_rules.specs.Sums.{all_below}
use Rattle.rollout_rules.specs.Items.{capacity_of}
use Rattle.rollout_rules.specs.Room.{room}
use Rattle.dependency_graph.specs.Ahead.{places_begun}
use Rattle.dependency_graph.specs.Cells.{resource_at}
use Rattle.rollout_core.proofs.room.fit_at.Given as goal

abbrev pub invariant-loop-resource : goal.invariant-loop-resource
invariant-loop-resource l =
    all_below l.resource (λ q. nat_le (room l.plan.problem l.plan.plan (places_begun l.plan l.progress l.ahead l.op) l.stage (resource_at l.plan.problem q)) (capacity_of l.plan.problem l.plan.plan (resource_at l.plan.problem q))) ≡ true
