use Rattle.std.proofs.Common.{Some}
use Rattle.retarget_service.specs.JournalRoom.{journal_room}
use Rattle.text_commands.specs.declared.command_end.CommandEnd.TheVariants.{DiskFault, WriteFault}
use Rattle.swanroll_top.proofs.Seeing.{ended-is, limit-is, unseen-no-write, unseen-reports}
use Rattle.swanroll_top.proofs.live.live_plan.Goals as goal

pub returns-in-Ok-clause-reports : goal.returns-in-Ok-clause-reports
returns-in-Ok-clause-reports g c = record {
  seen = Some c.in-Ok.image;
  sees = record { limit = c.limit_of.result; is = c.in-Ok.ensures };
  follows = c.report_seen.ensures.follows;
  failed = λ e. absurd (c.report_seen.ensures.no_disk (ended-is c.report_seen.result DiskFault e));
  moved = λ e. cc;
}

pub returns-in-Ok-clause-write_fault : goal.returns-in-Ok-clause-write_fault
returns-in-Ok-clause-write_fault g c = λ e. c.report_seen.ensures.write_fault (ended-is c.report_seen.result WriteFault e)

pub returns-in-Err-clause-reports : goal.returns-in-Err-clause-reports
returns-in-Err-clause-reports g c =
    unseen-reports g.W.Source.told c.args.migration c.args.plan c.limit_of.result c.args.file.now c.look.new.file (g.K.Sink.told c.args.sink.now).written
    (limit-is c.journal_room.result c.limit_of.result (journal_room c.args.plan) c.journal_room.ensures c.limit_of.ensures.value)
    c.in-Err.why c.from.result c.from.ensures c.in-Err.ensures

pub returns-in-Err-clause-write_fault : goal.returns-in-Err-clause-write_fault
returns-in-Err-clause-write_fault g c = λ e. absurd (unseen-no-write c.in-Err.why c.from.result c.from.ensures e)
