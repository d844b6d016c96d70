use Rattle.turn_lock.specs.Passes.{IsPassOf, IsSamePass}
use Rattle.turn_lock.proofs.tests.threads.turns.Given as goal

abbrev pub invariant-loop-number : goal.invariant-loop-number
invariant-loop-number g l = IsPassOf l.lock l.pass × IsSamePass l.fn.pass l.pass
