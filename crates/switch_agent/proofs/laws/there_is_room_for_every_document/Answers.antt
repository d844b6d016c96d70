use Rattle.switch_agent.specs.Items.{most_items}
use Rattle.switch_agent.proofs.Rooms.{room-below}
use Rattle.switch_agent.proofs.laws.there_is_room_for_every_document.Goals as goal

pub returns : goal.returns
returns c = room-below most_items
