use Rattle.rollout_laws.proofs.Within.{done-room, done-least}
use Rattle.rollout_laws.proofs.done.a_done_takes_no_room.Goals as goal

pub returns : goal.returns
returns c = record { room = done-room; least = done-least }
