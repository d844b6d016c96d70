-- What a seat knows that has seen a shared history, and what a call makes of it.
use Rattle.std.specs.Prelude.{◌≡◌, ◌≢◌, ℕ, true, List, [], ◌∷◌, ◌++◌, All}
use Rattle.rollout_rules.specs.declared.op.Entry.{Entry}
use Rattle.shared_book.specs.declared.note.What.{What}
use Rattle.shared_book.specs.declared.note.Written.{Written}
use Rattle.shared_book.specs.Notes.{calls_by}
use Rattle.shared_book.specs.Histories.{Opening}
use Rattle.shared_book.specs.Legal.{is_legal_shared}

-- What was seen is legal, and has so many calls of the seat.
pub record Knows (o : Opening) (seat calls : ℕ) (seen : List Written) : Type 0 where
  pub legal : is_legal_shared o seen ≡ true
  pub made : calls_by seat seen ≡ calls

-- the note of a seat's next call after a history
abbrev pub next_note : ℕ → List Written → What → List Entry → Written
next_note seat ws said es = record { note = record { seat = seat; call = calls_by seat ws; what = said }; entries = es }

-- The history begins with what was seen, and past that has no note of the seat.
pub record GoesPast (seat : ℕ) (seen log : List Written) : Type 0 where
  pub between : List Written
  pub is : log ≡ seen ++ between
  pub none : All (λ w. seat ≢ w.note.seat) between

-- A call of a seat has left one note: after what it had seen others have notes, and then there is this one, with its entries.
pub record Notes (o : Opening) (seat : ℕ) (seen log : List Written) (said : What) (es : List Entry) (after : List Written) : Type 0 where
  pub past : GoesPast seat seen log
  pub is : after ≡ log ++ next_note seat log said es ∷ []
  pub legal : is_legal_shared o after ≡ true
