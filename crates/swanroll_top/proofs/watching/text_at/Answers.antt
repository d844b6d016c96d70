use Rattle.std.proofs.Common.{ap}
use Rattle.disk_model.specs.Memory.{Storing}
use Rattle.swanroll_top.proofs.LookingOn.{image-text}
use Rattle.swanroll_top.proofs.watching.text_at.Goals as goal

pub returns : goal.returns
returns c =
    image-text c.args.migration c.args.plan c.new-disk.result c.args.image c.report_journal-disk.result.answer c.or_live.result
    (ap (λ (disk : Storing). disk.timeline.medium.bytes) c.new-disk.ensures.fresh) c.report_journal-disk.ensures.tells c.or_live.ensures
