use Rattle.std.proofs.Common.{arith}
use Rattle.dependency_graph.specs.Cells.{resource_at}
use Rattle.dependency_graph.proofs.Counts.{own-least-with}
use Rattle.dependency_graph.proofs.Filled.{room-few}
use Rattle.dependency_graph.proofs.RoomCells.{at-resource}
use Rattle.dependency_graph.proofs.filling.few_room.Goals as goal

pub overflow_cast-result : goal.overflow_cast-result
overflow_cast-result c =
    let r = c.args.plan.now in
    omega (
      arith,
      c.room.ensures,
      room-few r c.args.progress.now c.requires.own c.checked_plan_is_valid.ensures.network c.checked_plan_is_valid.ensures.valid c.requires.goes_on c.args.stage
          (omega (arith, c.requires.low, own-least-with r c.args.progress.now)) c.requires.stage (resource_at r.problem c.args.resource) (at-resource r.problem c.args.resource c.requires.resource),
    )
