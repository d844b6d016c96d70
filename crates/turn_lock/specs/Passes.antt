-- What contracts read of a pass, of a value that is out, and of the lock.
use Rattle.std.specs.Prelude.{◌≡◌, ℕ, ◌+◌, List, [], ◌++◌}
use Rattle.turn_lock.specs.declared.counted.Counted.{Ghosts}
use Rattle.turn_lock.specs.declared.pass.Pass.{Pass}
use Rattle.turn_lock.specs.declared.held.Held.{Held}
use Rattle.turn_lock.specs.declared.lock.TurnLock.{TurnLock}
use Rattle.turn_lock.specs.Histories.{longer, seats}

module _ {V E : Type 0} {C : Ghosts V E} where
  -- what the pass has seen
  abbrev pub seen_of : Pass V E C → List E
  seen_of p = p.place.me.0.seen

  abbrev pub seat_of_pass : Pass V E C → ℕ
  seat_of_pass p = p.place.me.0.seat

  -- the seats that were joined to the pass
  abbrev pub joined_of : Pass V E C → List ℕ
  joined_of p = p.place.me.0.joined

  -- the pass's seat, and those joined to it
  abbrev pub seats_of : Pass V E C → List ℕ
  seats_of p = seats p.place.me.0

  -- how many seats were made
  abbrev pub given_of : Pass V E C → ℕ
  given_of p = p.place.me.0.given

  -- how many seats were split off and not yet joined
  abbrev pub out_of : Pass V E C → ℕ
  out_of p = p.place.me.0.out

  -- the history with which the value was taken
  abbrev pub taken_of : Held V E C → List E
  taken_of h = h.grip.place.me.0.seen

  -- the seat that has the value
  abbrev pub holder_of : Held V E C → ℕ
  holder_of h = h.grip.place.me.0.seat

  -- the pass is one of this lock
  abbrev pub IsPassOf : TurnLock V E → Pass V E C → Type 0
  IsPassOf lock p = p.place.table_id ≡ lock.table.shared.table_id

  abbrev pub IsHeldOf : TurnLock V E → Held V E C → Type 0
  IsHeldOf lock h = h.grip.place.table_id ≡ lock.table.shared.table_id

  -- the pass of seat 0 before anything was done
  pub record IsFirstPass (p : Pass V E C) : Type 0 where
    pub seat : seat_of_pass p ≡ 0
    pub seen : seen_of p ≡ []
    pub joined : joined_of p ≡ []
    pub given : given_of p ≡ 1
    pub out : out_of p ≡ 0

  -- the value is out with this pass
  pub record IsOutWith (p : Pass V E C) (h : Held V E C) : Type 0 where
    pub seat : seat_of_pass p ≡ holder_of h
    pub joined : joined_of p ≡ h.grip.place.me.0.joined
    pub given : given_of p ≡ h.grip.place.me.0.given
    pub out : out_of p ≡ h.grip.place.me.0.out

  -- the pass of seat 0 has split one seat off
  pub record HasGiven (p q : Pass V E C) : Type 0 where
    pub seat : seat_of_pass q ≡ seat_of_pass p
    pub seen : seen_of q ≡ seen_of p
    pub joined : joined_of q ≡ joined_of p
    pub given : given_of q ≡ given_of p + 1
    pub out : out_of q ≡ out_of p + 1

  -- the pass of the next seat, split off a pass that has made this many
  pub record IsNewPass (p q : Pass V E C) : Type 0 where
    pub seat : seat_of_pass q ≡ given_of p
    pub seen : seen_of q ≡ seen_of p
    pub joined : joined_of q ≡ []

  -- the pass of seat 0 has taken another in, and has seen the longer of what the two had
  pub record HasJoined (one other q : Pass V E C) : Type 0 where
    pub seat : seat_of_pass q ≡ seat_of_pass one
    pub seen : seen_of q ≡ longer (seen_of one) (seen_of other)
    pub joined : joined_of q ≡ joined_of one ++ seats_of other
    pub given : given_of q ≡ given_of one
    pub out : out_of q + 1 ≡ out_of one

  -- the same seat's pass, which may have seen more
  pub record IsSamePass (p q : Pass V E C) : Type 0 where
    pub seat : seat_of_pass q ≡ seat_of_pass p
    pub joined : joined_of q ≡ joined_of p
    pub given : given_of q ≡ given_of p
    pub out : out_of q ≡ out_of p
