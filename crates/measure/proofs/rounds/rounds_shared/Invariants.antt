use Rattle.turn_lock.specs.Passes.{IsPassOf, IsSamePass}
use Rattle.shared_book.specs.Calls.{IsCounted}
use Rattle.measure.proofs.rounds.rounds_shared.Given as goal

abbrev pub invariant-loop-round : goal.invariant-loop-round
invariant-loop-round g l = IsPassOf l.book.lock l.pass.pass × IsCounted l.pass.calls l.pass.pass × IsSamePass l.fn.pass.pass l.pass.pass
