use Rattle.std.proofs.Common.{Err, Ok, refl}
use Rattle.rollout_report.proofs.Watched.{there_once}
use Rattle.retarget_service.specs.JournalRoom.{journal_room}
use Rattle.swanroll_top.proofs.Seeing.{limit-is}
use Rattle.swanroll_top.proofs.left.left_plan.Goals as goal

pub returns-in-Ok : goal.returns-in-Ok
returns-in-Ok g c = record {
  limit = c.limit_of.result;
  room = limit-is c.journal_room.result c.limit_of.result (journal_room c.args.plan) c.journal_room.ensures c.limit_of.ensures.value;
  seen = Ok c.in-Ok.image;
  looks = c.in-Ok.ensures;
  once = λ home moments are read. there_once home moments c.in-Ok.image are read;
  ends = c.left_seen.ensures;
}

pub returns-in-Err : goal.returns-in-Err
returns-in-Err g c = record {
  limit = c.limit_of.result;
  room = limit-is c.journal_room.result c.limit_of.result (journal_room c.args.plan) c.journal_room.ensures c.limit_of.ensures.value;
  seen = Err c.in-Err.why;
  looks = c.in-Err.ensures;
  once = tt;
  ends = (c.from.ensures, refl);
}
