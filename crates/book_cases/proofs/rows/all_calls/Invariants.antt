use Rattle.book_cases.specs.Seats.{HasCalled}
use Rattle.book_cases.proofs.rows.all_calls.Given as goal

abbrev pub invariant-loop-row : goal.invariant-loop-row
invariant-loop-row g l =
    HasCalled l.book.lock l.fn.seats.first.pass l.seats.first.pass l.seats.first.calls
    × HasCalled l.book.lock l.fn.seats.second.pass l.seats.second.pass l.seats.second.calls
