use Rattle.swanroll_top.proofs.OnceRight.{live-written}
use Rattle.swanroll_top.proofs.laws.a_live_report_is_written.Goals as goal

pub returns : goal.returns
returns g c = λ migration source source_now file file_now sink sink_now notes notes_now status promise input image o tells stored is ok six seven eight twelve.
    live-written migration source source_now sink.written sink_now.written input image o tells is ok promise.does.seen promise.ending status notes notes_now promise.told promise.does.runs stored six seven eight twelve
