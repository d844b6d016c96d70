use Rattle.std.proofs.Common.{ap}
use Rattle.disk_model.specs.Memory.{Storing}
use Rattle.retarget_service.proofs.Writings.{opened-writes, refused-writes}
use Rattle.retarget_service.proofs.by_journal.follow.Goals as goal

pub returns-in-Ok : goal.returns-in-Ok
returns-in-Ok c =
    let opened = c.in-Ok.ensures.opened in
    opened-writes c.args.graph.now.rollout c.args.digest.now c.args.image c.new-disk.result c.recover.new.graph.rollout c.recover.new.graph.history c.left_text.result
    (ap (λ (disk : Storing). disk.timeline.medium.bytes) c.new-disk.ensures.fresh) opened.rollout opened.found c.left_text.ensures

pub returns-in-Err : goal.returns-in-Err
returns-in-Err c =
    refused-writes c.args.graph.now.rollout c.args.digest.now c.args.image c.new-disk.result c.in-Err.unopened.cause c.refusal.result
    (ap (λ (disk : Storing). disk.timeline.medium.bytes) c.new-disk.ensures.fresh) c.refusal.ensures c.in-Err.ensures.left.refusal
