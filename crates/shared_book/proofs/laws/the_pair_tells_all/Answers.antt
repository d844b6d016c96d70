use Rattle.shared_book.proofs.Pairs.{pair-tells}
use Rattle.shared_book.proofs.laws.the_pair_tells_all.Goals as goal

pub returns : goal.returns
returns c = pair-tells
