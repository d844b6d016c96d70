use Rattle.std.proofs.Common.{None, refl, subst, sym}
use Rattle.swanroll_top.specs.Live.{ReportsSeen}
use Rattle.text_commands.specs.declared.command_end.CommandEnd.TheVariants.{DiskFault, WriteFault}
use Rattle.swanroll_top.proofs.Seeing.{ended-is}
use Rattle.swanroll_top.proofs.Reporting.{input-no-disk, input-no-write, input-refused}
use Rattle.swanroll_top.proofs.live.live_input.Goals as goal

pub returns-in-Ok-clause-reports : goal.returns-in-Ok-clause-reports
returns-in-Ok-clause-reports g c =
    subst (λ r. ReportsSeen g.W.Source.told c.args.migration r c.args.file.now c.live_plan.new.file c.live_plan.result (g.K.Sink.told c.args.sink.now).written (g.K.Sink.told c.live_plan.new.sink).written) (sym c.in-Ok.ensures) c.live_plan.ensures.reports

pub returns-in-Err-clause-reports : goal.returns-in-Err-clause-reports
returns-in-Err-clause-reports g c = record {
  seen = None;
  sees = tt;
  follows = input-refused _ _ _ _ c.in-Err.ending (λ is. input-no-disk _ DiskFault is refl) c.in-Err.ensures;
  failed = λ e. absurd (input-no-disk _ c.in-Err.ending c.in-Err.ensures (ended-is c.in-Err.ending DiskFault e));
  moved = λ e. cc;
}

pub returns-in-Err-clause-write_fault : goal.returns-in-Err-clause-write_fault
returns-in-Err-clause-write_fault g c = λ e. absurd (input-no-write _ c.in-Err.ending c.in-Err.ensures (ended-is c.in-Err.ending WriteFault e))
