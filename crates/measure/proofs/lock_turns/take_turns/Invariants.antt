use Rattle.turn_lock.specs.Passes.{IsPassOf, IsSamePass}
use Rattle.measure.proofs.lock_turns.take_turns.Given as goal

abbrev pub invariant-loop-turn : goal.invariant-loop-turn
invariant-loop-turn g l = IsPassOf l.lock l.pass × IsSamePass l.fn.pass l.pass
