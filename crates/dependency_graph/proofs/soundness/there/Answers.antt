use Rattle.std.proofs.Common.{arith}
use Rattle.dependency_graph.specs.Cells.{resource_at}
use Rattle.dependency_graph.proofs.RoomCells.{at-resource, capacity-few}
use Rattle.dependency_graph.proofs.soundness.there.Goals as goal

pub overflow_cast-result : goal.overflow_cast-result
overflow_cast-result c =
    let r = c.args.plan.now in
    omega (arith, c.capacity.ensures, capacity-few r.problem r.plan c.checked_plan_is_valid.ensures.network c.checked_plan_is_valid.ensures.valid (resource_at r.problem c.args.resource) (at-resource r.problem c.args.resource c.requires))
