use Rattle.retarget_service.proofs.Makings.{known-makes}
use Rattle.retarget_service.proofs.Writings.{known-empty}
use Rattle.retarget_service.proofs.by_aim.aimed_by.Goals as goal

pub aimed_known-requires-clause-empty : goal.aimed_known-requires-clause-empty
aimed_known-requires-clause-empty c = known-empty c.args.plan c.in-Ok.known.graph c.in-Ok.ensures.graph

pub returns-in-Ok : goal.returns-in-Ok
returns-in-Ok c = known-makes c.args.plan c.args.migration c.args.image c.args.aim.now c.in-Ok.known.graph c.in-Ok.known.digest c.aimed_known.result c.in-Ok.ensures.graph c.in-Ok.ensures.digest c.aimed_known.ensures
