use Rattle.swanroll_top.proofs.OnceRight.{once-wrote}
use Rattle.swanroll_top.proofs.laws.a_live_report_was_right_once.Goals as goal

pub returns : goal.returns
returns g c = λ migration source source_now file file_now sink sink_now notes notes_now status promise home moments zero are read.
    once-wrote migration source source_now promise.does.seen sink.written sink_now.written home moments are read promise.ending status notes notes_now promise.told zero promise.does.runs
