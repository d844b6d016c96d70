use Rattle.std.proofs.Common.{sym, subst}
use Rattle.retarget_service.specs.UnleftLines.{unleft_line}
use Rattle.retarget_top.specs.Lines.{no_link_line, target_line}
use Rattle.retarget_top.specs.RetargetPromise.{RetargetTold}
use Rattle.retarget_top.specs.declared.ending.RetargetEnding.{RetargetEnding}
use Rattle.retarget_top.proofs.telling.tell.Goals as goal

pub returns-in-Ended : goal.returns-in-Ended
returns-in-Ended g c =
    subst (λ (e : RetargetEnding). RetargetTold c.args.shed.now e c.note.result (g.K.Sink.told c.args.notes.now) (g.K.Sink.told c.note.new.notes)) (sym c.in-Ended.is) c.note.ensures.told

pub returns-in-Target : goal.returns-in-Target
returns-in-Target g c =
    subst (λ (e : RetargetEnding). RetargetTold c.args.shed.now e c.told.result (g.K.Sink.told c.args.notes.now) (g.K.Sink.told c.told.new.notes)) (sym c.in-Target.is)
    (c.told.ensures (target_line c.in-Target.fault) c.target_line.ensures)

pub returns-in-NoLink : goal.returns-in-NoLink
returns-in-NoLink g c =
    subst (λ (e : RetargetEnding). RetargetTold c.args.shed.now e c.told-in-NoLink.result (g.K.Sink.told c.args.notes.now) (g.K.Sink.told c.told-in-NoLink.new.notes)) (sym c.in-NoLink.is)
    (c.told-in-NoLink.ensures (no_link_line c.args.shed.now) c.no_link_line.ensures)

pub returns-in-Unleft : goal.returns-in-Unleft
returns-in-Unleft g c =
    subst (λ (e : RetargetEnding). RetargetTold c.args.shed.now e c.told-in-Unleft.result (g.K.Sink.told c.args.notes.now) (g.K.Sink.told c.told-in-Unleft.new.notes)) (sym c.in-Unleft.is)
    (c.told-in-Unleft.ensures (unleft_line c.in-Unleft.cause) c.unleft_line.ensures)
