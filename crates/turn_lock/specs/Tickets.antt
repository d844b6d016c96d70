-- Tickets: who has one, and whose turn it is.
use Rattle.std.specs.Prelude.{◌≡◌, ℕ, ◌+◌, ◌^◌, ◌<◌, ◌≤◌, List, [], ◌∷◌, length}
use mathlib.Core.Option.{some}
use lib.ListN.{get_elem?}
use Rattle.turn_lock.specs.declared.view.View.{View}
use Rattle.turn_lock.specs.declared.view.Stage.{Stage}
use Rattle.turn_lock.specs.declared.view.Stage.TheVariants.{Idle, Waiting, Turning, Joining, Spent}

module _ {E : Type 0} where
  -- the ticket of a view that has one
  abbrev pub ticket_of : Stage E → ℕ
  ticket_of Idle = 0
  ticket_of (Waiting t) = t
  ticket_of (Turning t) = t
  ticket_of (Joining a x b y n) = 0
  ticket_of Spent = 0

  -- the stage is one with this ticket
  abbrev pub HasTicket : ℕ → Stage E → Type 0
  HasTicket t Idle = ⊥
  HasTicket t (Waiting u) = u ≡ t
  HasTicket t (Turning u) = u ≡ t
  HasTicket t (Joining a x b y n) = ⊥
  HasTicket t Spent = ⊥

  -- its turn has come, and the value is out with it
  abbrev pub IsTurning : Stage E → Type 0
  IsTurning Idle = ⊥
  IsTurning (Waiting t) = ⊥
  IsTurning (Turning t) = Unit {0}
  IsTurning (Joining a x b y n) = ⊥
  IsTurning Spent = ⊥

  -- the seat was not joined to another
  abbrev pub IsLive : Stage E → Type 0
  IsLive Idle = Unit {0}
  IsLive (Waiting t) = Unit {0}
  IsLive (Turning t) = Unit {0}
  IsLive (Joining a x b y n) = Unit {0}
  IsLive Spent = ⊥

  -- 1 for a stage with a ticket
  abbrev pub tickets : Stage E → ℕ
  tickets Idle = 0
  tickets (Waiting t) = 1
  tickets (Turning t) = 1
  tickets (Joining a x b y n) = 0
  tickets Spent = 0

  -- 1 for a live stage
  abbrev pub lives : Stage E → ℕ
  lives Idle = 1
  lives (Waiting t) = 1
  lives (Turning t) = 1
  lives (Joining a x b y n) = 1
  lives Spent = 0

  -- a number of each stage, added up
  abbrev pub total : (Stage E → ℕ) → List (View E) → ℕ
  total f [] = 0
  total f (v ∷ vs) = f v.stage + total f vs

  -- the seat has this view
  abbrev pub At : List (View E) → ℕ → View E → Type 0
  At views seat v = get_elem? views seat ≡ some v

  -- Tickets are counted without end. Those that are out are the numbers from the turn on, each once: as many as there
  -- are views with one, all below the next, which is the turn and that many more
  pub record Queue (turn : ℕ) (views : List (View E)) : Type 0 where
    -- there are fewer than 2^32 seats, so that two tickets with the same remainder by 2^64 are one
    pub few : length views < 2 ^ 32
    pub from_turn : (seat : ℕ) (v : View E) (t : ℕ) → At views seat v → HasTicket t v.stage → turn ≤ t
    pub below_next : (seat : ℕ) (v : View E) (t : ℕ) → At views seat v → HasTicket t v.stage → t < turn + total tickets views
    pub each_once : (i j : ℕ) (v w : View E) (t : ℕ) → At views i v → At views j w → HasTicket t v.stage → HasTicket t w.stage → i ≡ j
    -- who takes the turn has its ticket
    pub its_turn : (seat : ℕ) (v : View E) → At views seat v → IsTurning v.stage → HasTicket turn v.stage
