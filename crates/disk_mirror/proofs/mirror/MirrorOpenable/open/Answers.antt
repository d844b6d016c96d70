use Rattle.disk_mirror.proofs.Within.{opens_within}
use Rattle.disk_mirror.proofs.mirror.MirrorOpenable.open.Goals as goal

pub returns-clause-within : goal.returns-clause-within
returns-clause-within g c =
    opens_within c.args.self.now c.begin-answer.new.self _ c.count_failure.new.self c.args.most c.begin-answer.result c.count_failure.result c.self.view_is c.begin-answer.ensures.within c.count_failure.ensures.value
