use Rattle.std.proofs.Common.{refl}
use Rattle.text_commands.proofs.Following.{cut-rollout}
use Rattle.swanroll_top.proofs.Leaving.{cut-leaves, input-leaves}
use Rattle.swanroll_top.proofs.Opening.{opens-nothing}
use Rattle.swanroll_top.proofs.Reporting.{cut-reports, report-no-guest, report-no-read, report-no-rollout, report-no-usage, short-reports}
use Rattle.swanroll_top.proofs.journal_report.report.Goals as goal

pub returns-in-Ok-clause-reports : goal.returns-in-Ok-clause-reports
returns-in-Ok-clause-reports g c =
    let reports = c.report_input.ensures.reports in
    record {
      opened = reports.opened;
      opens = reports.opens;
      runs = short-reports _ _ _ _ _ _ _ _ c.in-Ok.ensures.read reports.follows;
      leaves = input-leaves g.D.Disk.told _ _ _ _ _ _ _ c.in-Ok.ensures.read reports.leaves;
      untouched = reports.untouched;
    }

pub returns-in-Ok-clause-read_fault : goal.returns-in-Ok-clause-read_fault
returns-in-Ok-clause-read_fault g c = λ e. absurd (report-no-read _ _ _ _ _ _ c.report_input.ensures.reports.follows e)

pub returns-in-Ok-clause-ran : goal.returns-in-Ok-clause-ran
returns-in-Ok-clause-ran g c = λ e. report-no-usage _ _ _ _ _ _ c.report_input.ensures.reports.follows e

pub returns-in-Err-clause-reports : goal.returns-in-Err-clause-reports
returns-in-Err-clause-reports g c = record {
  opened = c.args.disk;
  opens = opens-nothing (g.D.Disk.told c.args.disk);
  runs = cut-reports _ _ _ _ _ _ c.in-Err.ensures.read;
  leaves = cut-leaves g.D.Disk.told _ _ _ _ _ _ c.in-Err.ensures.read (g.met.D.Disk.only_now c.args.disk) refl;
  untouched = λ three. refl;
}

pub returns-in-Ok-clause-no_guest : goal.returns-in-Ok-clause-no_guest
returns-in-Ok-clause-no_guest g c = λ e. report-no-guest _ _ _ _ _ _ c.report_input.ensures.reports.follows e

pub returns-in-Ok-clause-no_rollout : goal.returns-in-Ok-clause-no_rollout
returns-in-Ok-clause-no_rollout g c = λ u e. report-no-rollout _ _ _ _ u _ _ c.report_input.ensures.reports.follows e

pub returns-in-Err-clause-no_rollout : goal.returns-in-Err-clause-no_rollout
returns-in-Err-clause-no_rollout g c = λ u e. cut-rollout _ _ _ u c.in-Err.ensures.read e
