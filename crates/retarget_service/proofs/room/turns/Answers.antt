use Rattle.std.proofs.Common.{arith}
use Rattle.retarget_service.proofs.JournalRooms.{few-turns}
use Rattle.retarget_service.proofs.room.turns.Goals as goal

pub overflow_mul-result : goal.overflow_mul-result
overflow_mul-result c = omega (arith, few-turns c.from.result c.args.steps (omega arith) (omega arith))

pub returns-clause-few : goal.returns-clause-few
returns-clause-few c = few-turns c.from.result c.args.steps (omega arith) (omega arith)
