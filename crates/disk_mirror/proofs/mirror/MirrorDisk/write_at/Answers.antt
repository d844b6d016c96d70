use Rattle.disk_mirror.proofs.Telling.{write_told}
use Rattle.disk_mirror.proofs.mirror.MirrorDisk.write_at.Goals as goal

pub returns-clause-some : goal.returns-clause-some
returns-clause-some g c =
    write_told c.args.self.now c.write-answer.new.self _ c.count_failure.new.self c.self.view_is c.write-answer.ensures.faults c.count_failure.ensures.count c.args.at c.args.from.now c.write-answer.ensures.either
