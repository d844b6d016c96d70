use Rattle.shared_book.proofs.Saying.{list-may, alien-may, wake-may}
use Rattle.shared_book.proofs.laws.what_is_told_may_be_noted.Goals as goal

pub returns-clause-list : goal.returns-clause-list
returns-clause-list c = list-may

pub returns-clause-alien : goal.returns-clause-alien
returns-clause-alien c = alien-may

pub returns-clause-wake : goal.returns-clause-wake
returns-clause-wake c = wake-may
