use Rattle.disk_mirror.proofs.Telling.{sync_told}
use Rattle.disk_mirror.proofs.mirror.MirrorDisk.sync.Goals as goal

pub returns-clause-nothing : goal.returns-clause-nothing
returns-clause-nothing g c =
    sync_told c.args.self.now c.flush-answer.new.self _ c.count_failure.new.self c.self.view_is c.flush-answer.ensures.faults c.count_failure.ensures.count c.flush-answer.ensures.either
