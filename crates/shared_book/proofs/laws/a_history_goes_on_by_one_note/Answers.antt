use Rattle.std.proofs.Common.{[]}
use Rattle.shared_book.proofs.Going.{one_more, next_may_be}
use Rattle.shared_book.proofs.laws.a_history_goes_on_by_one_note.Goals as goal

pub returns-clause-goes_on : goal.returns-clause-goes_on
returns-clause-goes_on c = one_more

pub returns-clause-only : goal.returns-clause-only
returns-clause-only c = λ o ws w legal. next_may_be o ws [] w legal
