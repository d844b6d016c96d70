use Rattle.retarget_service.proofs.Writings.{nothing-left, written-left}
use Rattle.retarget_service.proofs.by_journal.left_text.Goals as goal

pub returns-in-Ok : goal.returns-in-Ok
returns-in-Ok c =
    let left = c.in-Ok.ensures in
    written-left c.args.graph.now.rollout c.args.graph.now.history c.in-Ok.problem c.write_left.result left.answer left.goes_on left.fits c.write_left.ensures

pub returns-in-Err : goal.returns-in-Err
returns-in-Err c = nothing-left c.args.graph.now.rollout c.args.graph.now.history c.in-Err.cause c.cause_told.result c.cause_told.ensures c.in-Err.ensures.answer
