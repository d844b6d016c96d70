-- What a call that waits for work makes of a shared history.
use Rattle.std.specs.Prelude.{◌≡◌, ⊤, ℕ, true, List, [], ◌∷◌, Option, Some, None}
use Rattle.rollout_rules.specs.Legal.{is_finished}
use Rattle.turn_lock.specs.Histories.{Follows}
use Rattle.rollout_book.specs.JournaledRounds.{Journaled}
use Rattle.shared_book.specs.declared.note.What.{What}
use Rattle.shared_book.specs.declared.note.Written.{Written}
use Rattle.shared_book.specs.declared.call_reply.Halt.{Halt}
use Rattle.shared_book.specs.declared.call_reply.Wake.{Wake}
use Rattle.shared_book.specs.declared.call_reply.Wake.TheVariants as wake
use Rattle.shared_book.specs.Histories.{Opening}
use Rattle.shared_book.specs.Legal.{is_legal_shared, is_still}
use Rattle.shared_book.specs.Replies.{asked_at, wake_or, wake_reply, wake_says, wake_with}
use Rattle.shared_book.specs.Calls.{seat_of}
use Rattle.shared_book.specs.Told.{with_noted}

abbrev pub first_of : {A : Type 0} → List A → Option A
first_of [] = None
first_of (x ∷ xs) = Some x

-- What a wait of these switches ends with at a book that a stop may have ended, if it ends.
abbrev pub wake_of : {D : Type 0} → Journaled D → Option Halt → List ℕ → Option Wake
wake_of b halted switches =
    wake_or halted
    (wake_with (is_finished b.rollout.problem b.rollout.plan b.history) (is_still b.rollout.problem b.history) (asked_at b.rollout.problem b.history switches))

-- what is noted of a look; nothing where the call waits on
abbrev pub wake_notes : Option Wake → Option What
wake_notes None = None
wake_notes (Some woken) = wake_says woken

-- what holds of a look that isn't refused for lack of memory
abbrev pub OnTold : Wake → Type 0 → Type 0
OnTold (wake.Work op) holds = holds
OnTold wake.Finished holds = holds
OnTold wake.Held holds = holds
OnTold (wake.Stopped halt) holds = holds
OnTold wake.Memory holds = ⊤

abbrev pub OnLook : Option Wake → Type 0 → Type 0
OnLook None holds = holds
OnLook (Some woken) holds = OnTold woken holds

-- what holds of a look that notes nothing
abbrev pub OnUnnoted : Option What → Type 0 → Type 0
OnUnnoted None holds = holds
OnUnnoted (Some said) holds = ⊤

-- A look of a call that waits: after what these seats had seen others have notes, and then, unless the call waits on, the note of the
-- look stands. The whole is legal, and what is told is what the history before that note says.
pub record IsLookCall (o : Opening) (seats : List ℕ) (seat : ℕ) (seen : List Written) (switches : List ℕ) (woken : Option Wake) (after : List Written) : Type 0 where
  pub log : List Written
  pub past : Follows seat_of seats seen log
  pub noted : after ≡ with_noted seat log (wake_notes woken) []
  pub legal : is_legal_shared o after ≡ true
  pub told : OnLook woken (woken ≡ wake_reply o log switches)
