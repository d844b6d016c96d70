use Rattle.swanroll_top.proofs.Complete.{report-written}
use Rattle.swanroll_top.proofs.laws.a_report_is_written.Goals as goal

pub returns : goal.returns
returns c = λ migration before after status input image o. report-written migration before after status input image o
