use Rattle.std.proofs.Common.{[], arith}
use Rattle.dependency_graph.specs.Ahead.{places_with}
use Rattle.dependency_graph.specs.Cells.{resource_at}
use Rattle.dependency_graph.proofs.RoomCells.{at-resource}
use Rattle.dependency_graph.proofs.SmallRooms.{room-small}
use Rattle.dependency_graph.proofs.soundness.taken.Goals as goal

pub overflow_cast-result : goal.overflow_cast-result
overflow_cast-result c =
    let r = c.args.plan.now in
    omega (arith, c.room.ensures, room-small r.problem r.plan (places_with r c.args.progress.now []) (resource_at r.problem c.args.resource) c.checked_plan_is_valid.ensures.network c.checked_plan_is_valid.ensures.valid (at-resource r.problem c.args.resource c.requires.resource) c.args.stage (omega (arith, c.requires.stage)) (omega (arith, c.last_stage.ensures.value, c.last_stage.ensures.few)))
