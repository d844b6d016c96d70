use Rattle.retarget_service.specs.JournalRoom.{journal_room}
use Rattle.swanroll_top.proofs.LookingOn.{seen-text, unseen-text}
use Rattle.swanroll_top.proofs.Seeing.{limit-is}
use Rattle.swanroll_top.proofs.watching.text_seen.Goals as goal

pub returns-in-Ok : goal.returns-in-Ok
returns-in-Ok g c =
    seen-text g.W.Source.told c.args.migration c.args.plan c.args.file.now c.look.new.file c.in-Ok.image c.text_at.result (record { limit = c.limit_of.result; is = c.in-Ok.ensures }) c.text_at.ensures

pub returns-in-Err : goal.returns-in-Err
returns-in-Err g c =
    unseen-text g.W.Source.told c.args.migration c.args.plan c.args.file.now c.look.new.file c.limit_of.result
    (limit-is c.journal_room.result c.limit_of.result (journal_room c.args.plan) c.journal_room.ensures c.limit_of.ensures.value)
    c.in-Err.why c.from.result c.from.ensures c.in-Err.ensures
