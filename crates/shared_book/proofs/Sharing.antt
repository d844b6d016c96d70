-- How a shared book goes on by one note.
use Rattle.std.proofs.Common.{◌≡◌, ℕ, ◌+◌, ◌<◌, ◌≤◌, Bool, true, false, not, ◌&&◌, ◌||◌, ◌==◌, if◌then◌else◌, List, [], ◌∷◌, ◌++◌, length, drop, Option, Some, None, refl, sym, ap, ap₂, ◌∙◌, subst, arith, append_assoc, append-nil, length-append, eq-eqb, ne_eqb}
use Rattle.std.specs.Option.{option_or}
use Rattle.std.proofs.Math.Seq.{drop-append_seam}
use Rattle.std.proofs.lemmas.Bool.{and_from}
use Rattle.lists.proofs.Conditions.{or_with_false, or_regrouped, or_second}
use Rattle.rollout_rules.specs.History.{History, with_entries}
use Rattle.rollout_rules.specs.declared.op.Entry.{Entry}
use Rattle.rollout_rules.proofs.Below.{sum_below-same, sum_below-but}
use Rattle.rollout_laws.proofs.Histories.{with_none, with_both}
use Rattle.rollout_book.specs.JournaledRounds.{Journaled}
use Rattle.shared_book.specs.declared.note.What.{What}
use Rattle.shared_book.specs.declared.note.Note.{Note}
use Rattle.shared_book.specs.declared.note.Written.{Written}
use Rattle.shared_book.specs.declared.call_reply.Halt.{Halt}
use Rattle.shared_book.specs.Notes.{notes_of, halt_by, first_stop, asks_to_stop, has_asked}
use Rattle.shared_book.specs.Histories.{Opening, segment_of, all_entries, written}
use Rattle.shared_book.specs.Legal.{may_say}
use Rattle.shared_book.specs.Knows.{next_note}
use Rattle.shared_book.proofs.Going.{one_more}
use Rattle.shared_book.proofs.Stops.{first_stop-append}
use Rattle.shared_book.proofs.Lists.{history-next}
use Rattle.shared_book.proofs.Pairs.{pair-tells}
use Rattle.shared_book.specs.Sharing.{Sharing, log_of, unasked, IsShared}

all_entries-next : (ws : List Written) (w : Written) → all_entries (ws ++ w ∷ []) ≡ all_entries ws ++ w.entries
all_entries-next [] w = append-nil w.entries
all_entries-next (v ∷ ws) w = ap (λ es. v.entries ++ es) (all_entries-next ws w) ∙ sym (append_assoc v.entries (all_entries ws) w.entries)

notes_of-next : (ws : List Written) (w : Written) → notes_of (ws ++ w ∷ []) ≡ notes_of ws ++ w.note ∷ []
notes_of-next [] w = refl
notes_of-next (v ∷ ws) w = ap (λ ns. v.note ∷ ns) (notes_of-next ws w)

or-none : (s : Option Halt) → option_or s None ≡ s
or-none (Some halt) = refl
or-none None = refl

pub first_stop-next : (ws : List Written) (w : Written) → first_stop (ws ++ w ∷ []) ≡ option_or (first_stop ws) (halt_by w.note)
first_stop-next ws w = first_stop-append ws (w ∷ []) ∙ ap (option_or (first_stop ws)) (or-none (halt_by w.note))

has_asked-next : (seat : ℕ) (ws : List Written) (w : Written) → has_asked seat (ws ++ w ∷ []) ≡ (has_asked seat ws || ((w.note.seat == seat) && asks_to_stop w.note.what))
has_asked-next seat [] w = or_with_false ((w.note.seat == seat) && asks_to_stop w.note.what)
has_asked-next seat (v ∷ ws) w =
    ap (λ b. ((v.note.seat == seat) && asks_to_stop v.note.what) || b) (has_asked-next seat ws w)
    ∙ sym (or_regrouped ((v.note.seat == seat) && asks_to_stop v.note.what) (has_asked seat ws) ((w.note.seat == seat) && asks_to_stop w.note.what))

and-none : (a b c : Bool) → c ≡ false → (a || (b && c)) ≡ a
and-none true b c nonene = refl
and-none false true c none = none
and-none false false c nonene = refl

unasked-next : (seats : ℕ) (ws : List Written) (w : Written) → asks_to_stop w.note.what ≡ false → unasked seats (ws ++ w ∷ []) ≡ unasked seats ws
unasked-next seats ws w none =
    sum_below-same seats (λ k. if not (has_asked k (ws ++ w ∷ [])) then 1 else 0) (λ k. if not (has_asked k ws) then 1 else 0)
    (λ k lt. ap (λ (b : Bool). if not b then 1 else 0) (has_asked-next k ws w ∙ and-none (has_asked k ws) (w.note.seat == k) (asks_to_stop w.note.what) none))

module _ {D : Type 0} (o : Opening) (seats : ℕ) where
  -- the notes and entries of the book are those of the history
  pub log-is : (b : Journaled D) (ns : List Note) (halt : Option Halt) (left most : ℕ) (log : List Written) → IsShared o seats b ns halt left most log → log_of b ns ≡ log
  log-is b ns halt left most log s =
      ap₂ written (ap₂ drop s.found (ap (λ (h : History). h.entries) s.history) ∙ drop-append_seam o.found.entries (all_entries log)) s.notes ∙ pair-tells o log s.legal

  pub at-log : (b : Journaled D) (ns : List Note) (halt : Option Halt) (left most : ℕ) (log : List Written) → IsShared o seats b ns halt left most log → IsShared o seats b ns halt left most (log_of b ns)
  at-log b ns halt left most log s = subst (IsShared o seats b ns halt left most) (sym (log-is b ns halt left most log s)) s

-- the facts of the type, told of what contracts see
pub shared-at : {D : Type 0} {o : Opening} {seats : ℕ} {b : Journaled D} {ns : List Note} {halt : Option Halt} {left most : ℕ} (seen now : Sharing D) → seen ≡ now → IsShared o seats b ns halt left most seen.log
    → IsShared o seats b ns halt left most now.log
shared-at {D} {o} {seats} {b} {ns} {halt} {left} {most} seen now same s = subst (λ (v : Sharing D). IsShared o seats b ns halt left most v.log) same s

-- and of a book that is this one
pub shared-as : {D : Type 0} {o : Opening} {seats : ℕ} {b : Journaled D} {ns : List Note} {halt : Option Halt} {left most : ℕ} {log : List Written} (c : Journaled D) → c ≡ b → IsShared o seats b ns halt left most log
    → IsShared o seats c ns halt left most log
shared-as {D} {o} {seats} {b} {ns} {halt} {left} {most} {log} c same s = subst (λ (x : Journaled D). IsShared o seats x ns halt left most log) (sym same) s

-- what a note makes of the book: its entries are in the history, and its segment in the list
pub record GoesOnBy {D : Type 0} (old new : Journaled D) (said : What) (es : List Entry) : Type 0 where
  pub rollout : new.rollout ≡ old.rollout
  pub found : new.found ≡ old.found
  pub history : new.history ≡ with_entries old.history es
  pub entries : new.entries ≡ old.entries ++ segment_of said es

-- nothing has changed but for the note
pub still : {D : Type 0} (b b' : Journaled D) (said : What) → b' ≡ b → segment_of said [] ≡ [] → GoesOnBy b b' said []
still b b' said is none = record {
  rollout = ap (λ x. x.rollout) is;
  found = ap (λ x. x.found) is;
  history = ap (λ x. x.history) is ∙ sym (with_none b.history);
  entries = ap (λ x. x.entries) is ∙ sym (append-nil b.entries) ∙ ap (λ (xs : List Entry). b.entries ++ xs) (sym none);
}

-- no note was made, and there may be more room
pub unnoted : {D : Type 0} (o : Opening) (seats : ℕ) (b : Journaled D) (ns ns' : List Note) (halt halt' : Option Halt) (left most most' : ℕ) (log : List Written)
    → IsShared o seats b ns halt left most log → ns' ≡ ns → halt' ≡ halt → length ns + left ≤ most' → IsShared o seats b ns' halt' left most' log
unnoted o seats b ns ns' halt halt' left most most' log s noted halts room = record {
  legal = s.legal;
  rollout = s.rollout;
  history = s.history;
  entries = s.entries;
  found = s.found;
  live = s.live;
  notes = noted ∙ s.notes;
  halted = halts ∙ s.halted;
  spare = s.spare;
  room = omega (arith, ap (λ (xs : List Note). length xs) noted, room);
}

module _ {D : Type 0} (o : Opening) (seats : ℕ) (b b' : Journaled D) (ns ns' : List Note) (halt halt' : Option Halt) (left most most' : ℕ) (log : List Written) (seat : ℕ) (said : What) (es : List Entry)
    (s : IsShared o seats b ns halt left most log) (may : may_say o log seat es said ≡ true) (by : GoesOnBy b b' said es)
    (lives : first_stop (log ++ next_note seat log said es ∷ []) ≡ None → b'.live ≡ true)
    (noted : ns' ≡ ns ++ (next_note seat log said es).note ∷ []) (halts : halt' ≡ option_or halt (halt_by (next_note seat log said es).note)) where
  pub one-note : (left' : ℕ) → left' ≡ unasked seats (log ++ next_note seat log said es ∷ []) → length ns' + left' ≤ most' → IsShared o seats b' ns' halt' left' most' (log ++ next_note seat log said es ∷ [])
  one-note left' spare room = let w = next_note seat log said es in record {
    legal = one_more o log seat said es s.legal may;
    rollout = by.rollout ∙ s.rollout;
    history = by.history ∙ ap (λ h. with_entries h es) s.history ∙ with_both o.found (all_entries log) es ∙ ap (with_entries o.found) (sym (all_entries-next log w));
    entries = by.entries ∙ ap (λ xs. xs ++ segment_of said es) s.entries ∙ sym (ap (λ (h : History). h.entries) (history-next o log w));
    found = by.found ∙ s.found;
    live = lives;
    notes = noted ∙ ap (λ xs. xs ++ w.note ∷ []) s.notes ∙ sym (notes_of-next log w);
    halted = halts ∙ ap (λ h. option_or h (halt_by w.note)) s.halted ∙ sym (first_stop-next log w);
    spare = spare;
    room = room;
  }

  -- of a note that asks for no stop
  pub goes-on : asks_to_stop said ≡ false → length ns + 1 + left ≤ most' → IsShared o seats b' ns' halt' left most' (log ++ next_note seat log said es ∷ [])
  goes-on none room =
      one-note left (s.spare ∙ sym (unasked-next seats log (next_note seat log said es) none))
      (omega (arith, ap (λ (xs : List Note). length xs) noted, length-append ns ((next_note seat log said es).note ∷ []), room))

-- ---- a seat asks that all stop
asked-here : (seat : ℕ) (ws : List Written) (w : Written) → w.note.seat ≡ seat → asks_to_stop w.note.what ≡ true → has_asked seat (ws ++ w ∷ []) ≡ true
asked-here seat ws w own asks = has_asked-next seat ws w ∙ or_second (has_asked seat ws) ((w.note.seat == seat) && asks_to_stop w.note.what) (and_from (w.note.seat == seat) (asks_to_stop w.note.what) (eq-eqb w.note.seat seat own) asks)

asked-there : (seat : ℕ) (ws : List Written) (w : Written) → (w.note.seat ≡ seat → ⊥) → has_asked seat (ws ++ w ∷ []) ≡ has_asked seat ws
asked-there seat ws w other = has_asked-next seat ws w ∙ or-none-of (has_asked seat ws) (w.note.seat == seat) (asks_to_stop w.note.what) (ne_eqb w.note.seat seat other)
  where
    or-none-of : (a b c : Bool) → b ≡ false → (a || (b && c)) ≡ a
    or-none-of true b c e = refl
    or-none-of false true c e = absurd (cc e)
    or-none-of false false c e = refl

abbrev waits : Bool → ℕ
waits asked = if not asked then 1 else 0

pub unasked-less : (seats seat : ℕ) (ws : List Written) (w : Written) → seat < seats → w.note.seat ≡ seat → asks_to_stop w.note.what ≡ true → has_asked seat ws ≡ false
    → unasked seats ws ≡ unasked seats (ws ++ w ∷ []) + 1
unasked-less seats seat ws w lt own asks not_yet =
    let but = sum_below-but seats seat (λ k. waits (has_asked k ws)) (λ k. waits (has_asked k (ws ++ w ∷ []))) lt
    (λ j below other. ap waits (sym (asked-there j ws w (λ same. other (sym same ∙ own))))) in
    let was : waits (has_asked seat ws) ≡ 1 = ap waits not_yet in
    let now : waits (has_asked seat (ws ++ w ∷ [])) ≡ 0 = ap waits (asked-here seat ws w own asks) in
    omega (arith, but, was, now)
