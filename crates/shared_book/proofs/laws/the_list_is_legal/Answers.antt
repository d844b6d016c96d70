use Rattle.shared_book.proofs.Lists.{list-is_legal, lost-is_legal}
use Rattle.shared_book.proofs.laws.the_list_is_legal.Goals as goal

pub returns-clause-list : goal.returns-clause-list
returns-clause-list c = list-is_legal

pub returns-clause-lost : goal.returns-clause-lost
returns-clause-lost c = lost-is_legal
