-- The rule of the lock's table: three words (the next ticket, the turn, the number of entries), one slot for the value,
-- and a view for each seat.
use Rattle.std.specs.Prelude.{◌≡◌, ℕ, ◌+◌, ◌%◌, ◌^◌, List, [], ◌∷◌, length, ◌⊎◌, Option, Some}
use mathlib.Core.Option as maybe
use lib.ListN.{get_elem?}
use Rattle.atomic_table.specs.Table.{State}
use Rattle.turn_lock.specs.declared.view.View.{View}
use Rattle.turn_lock.specs.Tickets.{At, IsTurning, Queue, tickets, total}
use Rattle.turn_lock.specs.Histories.{Known}

module _ {V E : Type 0} (history : V → List E) where
  -- the value is in the slot, with the whole history, and it is nobody's turn
  pub record AtHome (homes : List (maybe.Option (Option V))) (log : List E) (views : List (View E)) : Type 0 where
    pub value : V
    pub home : get_elem? homes 0 ≡ maybe.some (maybe.some (Some value))
    pub has_all : history value ≡ log
    pub nobody : (seat : ℕ) (v : View E) → At views seat v → IsTurning v.stage → ⊥

  -- the value is out with a seat whose turn it is
  pub record IsOut (views : List (View E)) : Type 0 where
    pub seat : ℕ
    pub view : View E
    pub at : At views seat view
    pub turning : IsTurning view.stage

  -- the rule of the lock
  pub record Kept (seat_of : E → ℕ) (s : State (Option V) (View E)) : Type 0 where
    pub turn : ℕ
    pub log : List E
    -- the words are the next ticket and the turn, as remainders, and the number of entries
    pub words : s.words ≡ ((turn + total tickets s.views) % 2 ^ 64) ∷ (turn % 2 ^ 64) ∷ length log ∷ []
    -- who has which ticket
    pub queue : Queue turn s.views
    -- who knows what of the history
    pub known : Known seat_of log s.views
    -- where the value is
    pub value : AtHome s.homes log s.views ⊎ IsOut s.views
