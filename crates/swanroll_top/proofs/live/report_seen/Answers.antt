use Rattle.std.proofs.Common.{ap}
use Rattle.disk_model.specs.Memory.{Storing}
use Rattle.swanroll_top.proofs.Seeing.{seen-follows, seen-no-disk, seen-write}
use Rattle.swanroll_top.proofs.live.report_seen.Goals as goal

pub returns-clause-follows : goal.returns-clause-follows
returns-clause-follows g c =
    seen-follows c.args.migration c.args.plan (g.K.Sink.told c.args.sink.now).written (g.K.Sink.told c.report_opened-ending.new.sink).written c.new-disk.result c.args.image c.report_opened-ending.result.ending c.in_memory.result
    (ap (λ (disk : Storing). disk.timeline.medium.bytes) c.new-disk.ensures.fresh) c.report_opened-ending.ensures.follows c.in_memory.ensures

pub returns-clause-no_disk : goal.returns-clause-no_disk
returns-clause-no_disk g c = λ e. seen-no-disk c.report_opened-ending.result.ending c.in_memory.result c.in_memory.ensures e

pub returns-clause-write_fault : goal.returns-clause-write_fault
returns-clause-write_fault g c = λ e. c.report_opened-ending.ensures.write_fault (seen-write c.report_opened-ending.result.ending c.in_memory.result c.in_memory.ensures e)
