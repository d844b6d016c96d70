use Rattle.turn_lock.specs.Histories.{Follows}
use Rattle.turn_lock.specs.Passes.{IsPassOf, IsSamePass, seats_of, seen_of}
use Rattle.shared_book.specs.Calls.{seat_of, IsCounted}
use Rattle.shared_book.proofs.waiting.LockedBook+NotedBook+D+M+ref+Policy.wait_work.Given as goal

-- It is the same seat's pass, which has seen more of the history, and nothing of its own seat.
abbrev pub invariant-loop : goal.invariant-loop
invariant-loop g l = record {
  lock : IsPassOf l.self.lock l.pass.pass;
  same : IsSamePass l.fn.pass.pass l.pass.pass;
  calls : IsCounted l.pass.calls l.pass.pass;
  follows : Follows seat_of (seats_of l.fn.pass.pass) (seen_of l.fn.pass.pass) (seen_of l.pass.pass);
}
