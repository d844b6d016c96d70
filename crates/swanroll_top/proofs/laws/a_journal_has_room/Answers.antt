use Rattle.swanroll_top.proofs.JournalRooms.{has-room}
use Rattle.swanroll_top.proofs.laws.a_journal_has_room.Goals as goal

pub returns : goal.returns
returns c = has-room
