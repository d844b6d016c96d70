use Rattle.shared_book.proofs.Going.{is_numbered}
use Rattle.shared_book.proofs.laws.seats_number_their_calls.Goals as goal

pub returns : goal.returns
returns c = is_numbered
