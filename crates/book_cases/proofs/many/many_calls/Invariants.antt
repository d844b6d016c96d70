use Rattle.book_cases.specs.Seats.{HasCalled}
use Rattle.book_cases.proofs.many.many_calls.Given as goal

abbrev pub invariant-loop-call : goal.invariant-loop-call
invariant-loop-call g l = HasCalled l.book.lock l.fn.pass.pass l.pass.pass l.pass.calls
