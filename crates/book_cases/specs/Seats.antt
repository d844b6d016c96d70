-- Passes with which a seat calls a shared book.
use Rattle.std.specs.Prelude.{◌≡◌, ℕ, ◌<◌}
use Rattle.wan_edge.specs.Frames.{Answer}
use Rattle.turn_lock.specs.declared.counted.Counted.{Ghosts}
use Rattle.turn_lock.specs.declared.lock.TurnLock.{TurnLock}
use Rattle.turn_lock.specs.declared.pass.Pass.{Pass}
use Rattle.turn_lock.specs.Passes.{IsPassOf, IsSamePass, out_of, seat_of_pass}
use Rattle.shared_book.specs.declared.note.Written.{Written}
use Rattle.shared_book.specs.Calls.{IsCounted}

-- every answer counts as heard, since no port is asked
abbrev pub TakesAny : (Answer → Type 0) → Type 0
TakesAny heard = (answer : Answer) → heard answer

module _ {V : Type 0} {C : Ghosts V Written} where
  -- a seat below a number, with so many calls, may call under this lock
  abbrev pub MayCall : TurnLock V Written → ℕ → Pass V Written C → ℕ → Type 0
  MayCall lock seats pass calls = IsPassOf lock pass × IsCounted calls pass × (seat_of_pass pass < seats)

  -- after its calls the seat's pass is this one, with so many calls
  abbrev pub HasCalled : TurnLock V Written → Pass V Written C → Pass V Written C → ℕ → Type 0
  HasCalled lock before after calls = IsPassOf lock after × IsCounted calls after × IsSamePass before after

  -- the pass is that of the first seat, to which all others were joined
  abbrev pub AllAreIn : TurnLock V Written → Pass V Written C → Type 0
  AllAreIn lock pass = IsPassOf lock pass × (seat_of_pass pass ≡ 0) × (out_of pass ≡ 0)
