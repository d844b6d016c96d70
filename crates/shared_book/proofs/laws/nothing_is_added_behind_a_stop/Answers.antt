use Rattle.shared_book.proofs.Stops.{nothing_added}
use Rattle.shared_book.proofs.laws.nothing_is_added_behind_a_stop.Goals as goal

pub returns : goal.returns
returns c = nothing_added
