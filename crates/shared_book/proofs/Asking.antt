-- What a stop makes of a shared book.
use Rattle.std.proofs.Common.{◌≡◌, ℕ, ◌+◌, ◌-◌, ◌<◌, ◌≤◌, Bool, true, false, ◌&&◌, ◌||◌, ◌==◌, List, [], ◌∷◌, ◌++◌, length, if◌then◌else◌, unwrap_or, Option, Some, None, refl, sym, ap, ◌∙◌, subst, arith, length-append}
use Rattle.std.specs.Option.{option_or}
use Rattle.std.specs.List.{list_any}
use Rattle.rollout_book.specs.JournaledRounds.{Journaled}
use Rattle.shared_book.specs.declared.note.Cause.{Cause}
use Rattle.shared_book.specs.declared.note.Cause.TheVariants as cause
use Rattle.shared_book.specs.declared.note.What.{What}
use Rattle.shared_book.specs.declared.note.What.TheVariants as what
use Rattle.shared_book.specs.declared.note.Note.{Note}
use Rattle.shared_book.specs.declared.note.Written.{Written}
use Rattle.shared_book.specs.declared.call_reply.Halt.{Halt}
use Rattle.shared_book.specs.Notes.{notes_of, calls_by, halt_by, first_stop, asks_to_stop, has_asked}
use Rattle.shared_book.specs.Histories.{Opening}
use Rattle.shared_book.specs.Knows.{next_note}
use Rattle.shared_book.specs.Replies.{halt_or, stop_reply}
use Rattle.shared_book.proofs.Saying.{stop-may}
use Rattle.shared_book.specs.Sharing.{IsShared, log_of, unasked}
use Rattle.shared_book.proofs.Sharing.{still, one-note, first_stop-next, unasked-less, log-is, at-log}

-- whether a seat has asked, by the notes alone
pub asked-notes : (seat : ℕ) (ws : List Written) → list_any (λ (n : Note). (n.seat == seat) && asks_to_stop n.what) (notes_of ws) ≡ has_asked seat ws
asked-notes seat [] = refl
asked-notes seat (w ∷ ws) = ap (λ b. ((w.note.seat == seat) && asks_to_stop w.note.what) || b) (asked-notes seat ws)

pub first-or : (halt : Option Halt) (own : Halt) → unwrap_or halt own ≡ halt_or halt own
first-or (Some h) own = refl
first-or None own = refl

never-none : (a : Option Halt) (h : Halt) → option_or a (Some h) ≡ None → ⊥
never-none (Some x) h e = cc e
never-none None h e = cc e

module _ {D : Type 0} (o : Opening) (seats : ℕ) (b : Journaled D) (ns ns' : List Note) (halt halt' : Option Halt) (left most most' : ℕ) (log : List Written) (seat : ℕ) (why : Cause)
    (s : IsShared o seats b ns halt left most log) (below : seat < seats) (not_yet : has_asked seat log ≡ false) where
  one-less : left ≡ unasked seats (log ++ next_note seat log (what.Stop why) [] ∷ []) + 1
  one-less = s.spare ∙ unasked-less seats seat log (next_note seat log (what.Stop why) []) below refl refl not_yet

  pub stop-shared : ns' ≡ ns ++ (next_note seat log (what.Stop why) []).note ∷ [] → halt' ≡ option_or halt (halt_by (next_note seat log (what.Stop why) []).note) → most ≤ most'
      → IsShared o seats b ns' halt' (left - 1) most' (log ++ next_note seat log (what.Stop why) [] ∷ [])
  stop-shared noted halts grown =
      let w = next_note seat log (what.Stop why) [] in
      one-note o seats b b ns ns' halt halt' left most most' log seat (what.Stop why) [] s (stop-may o log seat why not_yet) (still b b (what.Stop why) refl refl)
      (λ later. absurd (never-none (first_stop log) _ (sym (first_stop-next log w) ∙ later))) noted halts (left - 1)
      (let l = one-less in omega arith)
      (let r = s.room in let l = one-less in omega (arith, ap (λ (xs : List Note). length xs) noted, length-append ns (w.note ∷ [])))

-- What a stop leaves: the type's own facts, and the history with the note.
pub record StopLeaves {D : Type 0} (o : Opening) (seats : ℕ) (book : Journaled D) (list : List Note) (first : Option Halt) (waiting capacity : ℕ) (after : List Written) : Type 0 where
  pub shared : IsShared o seats book list first waiting capacity (log_of book list)
  pub noted : log_of book list ≡ after

pub stop-leaves : {D : Type 0} (o : Opening) (seats : ℕ) (b : Journaled D) (ns ns' : List Note) (halt halt' : Option Halt) (left most most' : ℕ) (log : List Written) (seat call : ℕ) (why : Cause)
    → IsShared o seats b ns halt left most log → seat < seats → has_asked seat log ≡ false → call ≡ calls_by seat log
    → ns' ≡ ns ++ record { seat = seat; call = call; what = what.Stop why } ∷ [] → halt' ≡ option_or halt (halt_by (record { seat = seat; call = call; what = what.Stop why })) → most ≤ most'
    → StopLeaves o seats b ns' halt' (left - 1) most' (log ++ next_note seat log (what.Stop why) [] ∷ [])
stop-leaves o seats b ns ns' halt halt' left most most' log seat call why s below not_yet numbered noted halts grown =
    let shared = stop-shared o seats b ns ns' halt halt' left most most' log seat why s below not_yet
    (noted ∙ ap (λ (k : ℕ). ns ++ record { seat = seat; call = k; what = what.Stop why } ∷ []) numbered)
    (halts ∙ ap (λ (k : ℕ). option_or halt (halt_by (record { seat = seat; call = k; what = what.Stop why }))) numbered) grown in
    record { shared = at-log o seats b ns' halt' (left - 1) most' _ shared; noted = log-is o seats b ns' halt' (left - 1) most' _ shared }

-- what the notes say of a seat is what the history does
pub asked-is : {D : Type 0} (o : Opening) (seats : ℕ) (b : Journaled D) (ns seen : List Note) (halt : Option Halt) (left most : ℕ) (log : List Written) (seat : ℕ) (found answer : Bool)
    → IsShared o seats b ns halt left most log → seen ≡ ns → found ≡ list_any (λ (n : Note). (n.seat == seat) && asks_to_stop n.what) seen → found ≡ answer → has_asked seat log ≡ answer
asked-is o seats b ns seen halt left most log seat found answer s same is told =
    sym (asked-notes seat log) ∙ ap (list_any (λ (n : Note). (n.seat == seat) && asks_to_stop n.what)) (sym (same ∙ s.notes)) ∙ sym is ∙ told

-- a place, and one to spare
pub has-place : {D : Type 0} (o : Opening) (seats : ℕ) (b : Journaled D) (ns : List Note) (halt : Option Halt) (left most : ℕ) (log : List Written) (seat : ℕ)
    → IsShared o seats b ns halt left most log → seat < seats → has_asked seat log ≡ false → (length ns < most) × (1 ≤ left)
has-place o seats b ns halt left most log seat s below not_yet =
    let l = s.spare ∙ unasked-less seats seat log (next_note seat log (what.Stop cause.Memory) []) below refl refl not_yet in
    let r = s.room in (omega arith, omega arith)

pub asked-log : (asked : Bool) (log more : List Written) → asked ≡ true → log ≡ (if asked then log else more)
asked-log true log more e = refl
asked-log false log more e = absurd (cc e)

pub unasked-log : (asked : Bool) (log more after : List Written) → asked ≡ false → after ≡ more → after ≡ (if asked then log else more)
unasked-log true log more after e is = absurd (cc e)
unasked-log false log more after e is = is
