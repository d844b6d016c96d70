use Rattle.std.proofs.Common.{None, ap}
use Rattle.swanroll_top.specs.Live.{plain}
use Rattle.swanroll_top.proofs.Seeing.{cut-no-disk, cut-no-write, read-cause}
use Rattle.swanroll_top.proofs.Reporting.{cut-reports, report-no-read, short-reports}
use Rattle.swanroll_top.proofs.live.live_ending.Goals as goal

pub returns-in-Ok-clause-reports : goal.returns-in-Ok-clause-reports
returns-in-Ok-clause-reports g c =
    let reports = c.live_input.ensures.reports in
    record {
      seen = reports.seen;
      sees = reports.sees;
      runs = short-reports _ _ _ _ _ _ _ (plain c.live_input.result) c.in-Ok.ensures.read reports.follows;
      failed = reports.failed;
      moved = reports.moved;
    }

pub returns-in-Ok-clause-read_fault : goal.returns-in-Ok-clause-read_fault
returns-in-Ok-clause-read_fault g c = λ e. absurd (report-no-read _ _ _ _ _ (plain c.live_input.result) c.live_input.ensures.reports.follows (ap plain e))

pub returns-in-Err-clause-reports : goal.returns-in-Err-clause-reports
returns-in-Err-clause-reports g c = record {
  seen = None;
  sees = tt;
  runs = cut-reports _ _ _ _ _ c.in-Err.ending c.in-Err.ensures.read;
  failed = λ e. absurd (cut-no-disk _ _ c.in-Err.ending c.in-Err.ensures.read e);
  moved = λ e. cc;
}

pub returns-in-Err-clause-read_fault : goal.returns-in-Err-clause-read_fault
returns-in-Err-clause-read_fault g c = λ e. read-cause c.in-Err.ending _ c.in-Err.ensures.cause e

pub returns-in-Err-clause-write_fault : goal.returns-in-Err-clause-write_fault
returns-in-Err-clause-write_fault g c = λ e. absurd (cut-no-write _ _ c.in-Err.ending c.in-Err.ensures.read e)
