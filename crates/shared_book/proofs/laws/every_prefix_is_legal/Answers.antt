use Rattle.shared_book.proofs.Going.{front_is_legal}
use Rattle.shared_book.proofs.laws.every_prefix_is_legal.Goals as goal

pub returns : goal.returns
returns c = front_is_legal
