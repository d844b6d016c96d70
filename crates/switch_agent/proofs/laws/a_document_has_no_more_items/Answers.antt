use Rattle.switch_agent.proofs.Rooms.{few-items}
use Rattle.switch_agent.proofs.laws.a_document_has_no_more_items.Goals as goal

pub returns : goal.returns
returns c = few-items
