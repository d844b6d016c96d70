use Rattle.std.proofs.Common.{refl, subst, sym}
use Rattle.swanroll_top.specs.ReportPromise.{ReportsIn}
use Rattle.text_commands.specs.declared.command_end.CommandEnd.TheVariants.{DiskFault}
use Rattle.swanroll_top.proofs.Leaving.{unread-leaves}
use Rattle.swanroll_top.proofs.Opening.{opens-nothing}
use Rattle.swanroll_top.proofs.Reporting.{input-no-disk, input-no-write, input-refused}
use Rattle.swanroll_top.proofs.journal_report.report_input.Goals as goal

pub returns-in-Ok-clause-reports : goal.returns-in-Ok-clause-reports
returns-in-Ok-clause-reports g c =
    subst (λ r. ReportsIn g.D.Disk.told c.args.migration r c.args.disk c.report_plan.result.disk c.report_plan.result.ending (g.K.Sink.told c.args.sink.now).written (g.K.Sink.told c.report_plan.new.sink).written) (sym c.in-Ok.ensures) c.report_plan.ensures.reports

pub returns-in-Err-clause-reports : goal.returns-in-Err-clause-reports
returns-in-Err-clause-reports g c = record {
  opened = c.args.disk;
  opens = opens-nothing (g.D.Disk.told c.args.disk);
  follows = input-refused _ _ _ _ _ (λ is. input-no-disk _ DiskFault is refl) c.in-Err.ensures;
  leaves = unread-leaves g.D.Disk.told _ _ _ _ _ c.in-Err.ensures (g.met.D.Disk.only_now c.args.disk) refl;
  untouched = λ three. refl;
}

pub returns-in-Err-clause-write_fault : goal.returns-in-Err-clause-write_fault
returns-in-Err-clause-write_fault g c = λ e. absurd (input-no-write _ _ c.in-Err.ensures e)

pub returns-in-Err-clause-disk_fault : goal.returns-in-Err-clause-disk_fault
returns-in-Err-clause-disk_fault g c = λ e. absurd (input-no-disk _ _ c.in-Err.ensures e)
