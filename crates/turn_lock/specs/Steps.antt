-- What each atomic step tells its caller.
use Rattle.std.specs.Prelude.{◌≡◌, ◌≢◌, ◌<◌, All, ℕ, ◌+◌, ◌-◌, ◌%◌, ◌^◌, List, [], ◌∷◌, ◌++◌, Option, Some, None}
use Rattle.atomic_table.specs.Table.{Me, Step}
use Rattle.turn_lock.specs.declared.view.View.{View}
use Rattle.turn_lock.specs.declared.view.Stage.{Stage}
use Rattle.turn_lock.specs.declared.view.Stage.TheVariants.{Idle, Waiting, Turning, Joining, Spent}
use Rattle.turn_lock.specs.Tickets.{ticket_of}
use Rattle.turn_lock.specs.Histories.{Follows, Meets, longer, seats}

module _ {E : Type 0} where
  abbrev pub with_stage : Stage E → View E → View E
  with_stage stage v = record { stage = stage; seat = v.seat; seen = v.seen; joined = v.joined; given = v.given; out = v.out }

  -- its turn has come, and it has seen the whole history
  abbrev pub turning : View E → List E → View E
  turning v log = record { stage = Turning (ticket_of v.stage); seat = v.seat; seen = log; joined = v.joined; given = v.given; out = v.out }

  abbrev pub seeing : View E → List E → View E
  seeing v log = record { stage = v.stage; seat = v.seat; seen = log; joined = v.joined; given = v.given; out = v.out }

  -- the view of the first seat
  abbrev pub newcomer : View E
  newcomer = record { stage = Idle; seat = 0; seen = []; joined = []; given = 1; out = 0 }

  -- seat 0 gives the next number to a new seat, which has seen as much
  abbrev pub giving : View E → View E
  giving v = record { stage = v.stage; seat = v.seat; seen = v.seen; joined = v.joined; given = v.given + 1; out = v.out + 1 }

  abbrev pub given_seat : View E → View E
  given_seat v = record { stage = Idle; seat = v.given; seen = v.seen; joined = []; given = 0; out = 0 }

  -- seat 0 takes another seat in, with the longer of what the two have seen
  abbrev pub joining : View E → View E → View E
  joining v w = record { stage = Joining (seats v) v.seen (seats w) w.seen v.out; seat = v.seat; seen = longer v.seen w.seen; joined = v.joined ++ seats w; given = v.given; out = v.out - 1 }

  abbrev pub spent : View E
  spent = record { stage = Spent; seat = 0; seen = []; joined = []; given = 0; out = 0 }

module _ {S E : Type 0} where
  -- the seat has drawn the ticket with this remainder
  abbrev pub Waits : ℕ → Me S (View E) → Type 0
  Waits found m = (m.0.stage ≡ Waiting (ticket_of m.0.stage)) × (found ≡ ticket_of m.0.stage % 2 ^ 64) × (m.1 ≡ [])

  abbrev pub drawn : Step S → Me S (View E) → ℕ → Me S (View E) → Type 0
  drawn st m found m' = (m' ≡ (with_stage (Waiting (ticket_of m'.0.stage)) m.0, m.1)) × (found ≡ ticket_of m'.0.stage % 2 ^ 64)

  abbrev pub passed : Step S → Me S (View E) → ℕ → Me S (View E) → Type 0
  passed st m found m' = m' ≡ (with_stage Idle m.0, [])

module _ {S E : Type 0} (seat_of : E → ℕ) where
  -- what a seat knows that is idle or has just joined another, and of seat 0 that all it has seen is of seats that were made
  abbrev pub settled : Step S → Me S (View E) → ℕ → Me S (View E) → Type 0
  settled st m found m' =
      (m' ≡ (with_stage Idle m.0, m.1)) × Meets seat_of m.0.stage m.0.seen m.0.out × (m.0.seat ≡ 0 → All (λ e. seat_of e < m.0.given) m.0.seen)

module _ {V E : Type 0} (history : V → List E) where
  abbrev pub shown : Option V → List E
  shown None = []
  shown (Some x) = history x

  -- the history of the value that was taken last
  abbrev pub carried : List (ℕ × Option V) → List E
  carried [] = []
  carried (x ∷ xs) = shown x.1

  abbrev pub counted : Step (Option V) → Me (Option V) (View E) → ℕ → Me (Option V) (View E) → Type 0
  counted st m found m' = m' ≡ (seeing m.0 (carried m.1), m.1)

  module _ (seat_of : E → ℕ) where
    -- the turn has come: the value is out with the seat, and goes on from what the seat had seen
    abbrev pub Turned : Me (Option V) (View E) → Me (Option V) (View E) → Type 0
    Turned m m' = (x : V) × (m' ≡ (turning m.0 (history x), (0, Some x) ∷ m.1)) × Follows seat_of (seats m.0) m.0.seen (history x)

    abbrev pub looked : Step (Option V) → Me (Option V) (View E) → ℕ → Me (Option V) (View E) → Type 0
    looked st m found m' = (found ≡ ticket_of m.0.stage % 2 ^ 64 → Turned m m') × (found ≢ ticket_of m.0.stage % 2 ^ 64 → m' ≡ m)
