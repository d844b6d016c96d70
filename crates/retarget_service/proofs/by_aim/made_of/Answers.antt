use Rattle.retarget_service.proofs.Makings.{nothing-made}
use Rattle.retarget_service.proofs.by_aim.made_of.Goals as goal

pub returns-in-Ok : goal.returns-in-Ok
returns-in-Ok c = record { aimed = c.in-Ok.ensures.answer; stands = c.in-Ok.ensures.stands; fits = c.in-Ok.ensures.fits }

pub returns-in-Err : goal.returns-in-Err
returns-in-Err c = nothing-made c.args.graph.now.rollout c.args.graph.now.history c.args.aim.now c.in-Err.cause c.cause_told.result c.cause_told.ensures c.in-Err.ensures.answer
