use Rattle.shared_book.proofs.Stops.{first_stop-stays}
use Rattle.shared_book.proofs.laws.a_first_stop_stays.Goals as goal

pub returns : goal.returns
returns c = first_stop-stays
