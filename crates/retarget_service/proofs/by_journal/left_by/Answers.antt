use Rattle.retarget_service.proofs.Writings.{known-empty, known-writes}
use Rattle.retarget_service.proofs.by_journal.left_by.Goals as goal

pub left_known-requires : goal.left_known-requires
left_known-requires c = known-empty c.args.plan c.in-Ok.known.graph c.in-Ok.ensures.graph

pub returns-in-Ok : goal.returns-in-Ok
returns-in-Ok c = known-writes c.args.plan c.args.migration c.args.image c.in-Ok.known.graph c.in-Ok.known.digest c.left_known.result c.in-Ok.ensures.graph c.in-Ok.ensures.digest c.left_known.ensures
