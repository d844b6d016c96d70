-- What contracts see of a shared book: the book, and the notes with their entries. And what it relies on.
use Rattle.std.specs.Prelude.{◌≡◌, ℕ, ◌+◌, ◌≤◌, true, not, List, [], ◌∷◌, ◌++◌, length, drop, Option, Some, None}
use Rattle.std.specs.Option.{option_or}
use Rattle.rollout_rules.specs.Sums.{count_below}
use Rattle.rollout_rules.specs.History.{with_entries}
use Rattle.rollout_book.specs.JournaledRounds.{Journaled}
use Rattle.shared_book.specs.declared.note.What.{What}
use Rattle.shared_book.specs.declared.note.Note.{Note}
use Rattle.shared_book.specs.declared.note.Written.{Written}
use Rattle.shared_book.specs.declared.call_reply.Halt.{Halt}
use Rattle.shared_book.specs.Notes.{notes_of, halt_by, first_stop, has_asked}
use Rattle.shared_book.specs.Histories.{Opening, history_of, all_entries, written}
use Rattle.shared_book.specs.Legal.{is_legal_shared}

pub record Sharing (D : Type 0) : Type 0 where
  pub book : Journaled D
  pub log : List Written

-- the notes with their entries, which are those after what was found
abbrev pub log_of : {D : Type 0} → Journaled D → List Note → List Written
log_of b notes = written (drop b.found b.history.entries) notes

-- how many seats below a number have not asked that all stop
abbrev pub unasked : ℕ → List Written → ℕ
unasked seats log = count_below seats (λ seat. not (has_asked seat log))

-- What a shared book relies on: the book is the one of the opening after a legal shared history, of which it has the notes and
-- the first stop; it lives up to there; and there is room for the Stop of each seat that has not asked yet.
pub record IsShared {D : Type 0} (o : Opening) (seats : ℕ) (b : Journaled D) (ns : List Note) (halt : Option Halt) (left most : ℕ) (log : List Written) : Type 0 where
  pub legal : is_legal_shared o log ≡ true
  pub rollout : b.rollout ≡ o.rollout
  pub history : b.history ≡ with_entries o.found (all_entries log)
  pub entries : b.entries ≡ (history_of o log).entries
  pub found : b.found ≡ length o.found.entries
  pub live : first_stop log ≡ None → b.live ≡ true
  pub notes : ns ≡ notes_of log
  pub halted : halt ≡ first_stop log
  pub spare : left ≡ unasked seats log
  pub room : length ns + left ≤ most

-- one note more and the first stop with it, or nothing
abbrev pub IsNoted : ℕ → ℕ → Option What → List Note → Option Halt → List Note → Option Halt → Type 0
IsNoted seat call None ns halt ns' halt' = (ns' ≡ ns) × (halt' ≡ halt)
IsNoted seat call (Some said) ns halt ns' halt' =
    (ns' ≡ ns ++ record { seat = seat; call = call; what = said } ∷ [])
    × (halt' ≡ option_or halt (halt_by (record { seat = seat; call = call; what = said })))
