-- A call through the lock: its number, whose entries it adds, and how many calls were made after it.
use Rattle.std.proofs.Common.{◌≡◌, ◌≢◌, ℕ, ◌+◌, ◌-◌, ◌<◌, ◌≤◌, Bool, true, false, ◌==◌, if◌then◌else◌, List, [], ◌∷◌, ◌++◌, length, All, Option, Some, None, refl, sym, ap, ap₂, ◌∙◌, subst, arith, append-nil, length-append, eq-eqb, ne_eqb}
use Rattle.std.proofs.lemmas.List.Elements.{All-cons, All-head, All-nil, All-tail}
use Rattle.rollout_rules.specs.declared.op.Entry.{Entry}
use Rattle.turn_lock.specs.Histories.{Follows, GoesOn}
use Rattle.shared_book.specs.declared.note.Cause.{Cause}
use Rattle.shared_book.specs.declared.note.What.{What}
use Rattle.shared_book.specs.declared.note.What.TheVariants as what
use Rattle.shared_book.specs.declared.note.Written.{Written}
use Rattle.shared_book.specs.Notes.{calls_by, has_asked}
use Rattle.shared_book.specs.Knows.{next_note}
use Rattle.shared_book.proofs.Going.{calls_by-append, calls_by-next}
use Rattle.shared_book.specs.Calls.{seat_of}
use Rattle.shared_book.specs.Told.{brought, noted_count, with_noted}

-- ---- the number of a call
abbrev one_if : Bool → ℕ
one_if own = if own then 1 else 0

calls-none : (seat : ℕ) (joined : List ℕ) (past : List Written) → All (λ w. All (λ k. k ≢ seat_of w) (seat ∷ joined)) past → calls_by seat past ≡ 0
calls-none seat joined [] none = refl
calls-none seat joined (w ∷ ws) none =
    let P : Written → Type 0 = λ v. All (λ k. k ≢ seat_of v) (seat ∷ joined) in
    let other : seat ≢ w.note.seat = All-head (λ k. k ≢ w.note.seat) seat joined (All-head P w ws none) in
    let not_own : one_if (w.note.seat == seat) ≡ 0 = ap one_if (ne_eqb w.note.seat seat (λ same. other (sym same))) in
    omega (arith, not_own, calls-none seat joined ws (All-tail P w ws none))

-- after what the pass had seen its seat has made no other call
pub call-is : (seat seat' calls : ℕ) (joined : List ℕ) (seen taken log : List Written) → calls ≡ calls_by seat seen → Follows seat_of (seat ∷ joined) seen taken → log ≡ taken → seat' ≡ seat → calls ≡ calls_by seat' log
call-is seat seat' calls joined seen taken log made past same own =
    let here : calls_by seat taken ≡ calls_by seat seen + 0 =
    ap (calls_by seat) past.is ∙ calls_by-append seat seen past.past ∙ ap (λ n. calls_by seat seen + n) (calls-none seat joined past.past past.none) in
    omega (arith, made, here, ap (calls_by seat) same, ap (λ k. calls_by k log) own)

-- who was made after all that was seen has made none
pub calls-before : (seat : ℕ) (ws : List Written) → All (λ w. seat_of w < seat) ws → calls_by seat ws ≡ 0
calls-before seat [] below = refl
calls-before seat (w ∷ ws) below =
    let lower : w.note.seat < seat = All-head (λ v. seat_of v < seat) w ws below in
    let not_own : one_if (w.note.seat == seat) ≡ 0 = ap one_if (ne_eqb w.note.seat seat (λ same. omega (arith, lower, same))) in
    omega (arith, not_own, calls-before seat ws (All-tail (λ v. seat_of v < seat) w ws below))

-- ---- whose entries it adds
noted-on : (seat : ℕ) (log : List Written) (notes : Option What) (es : List Entry) → GoesOn seat_of seat log (with_noted seat log notes es)
noted-on seat log None es = record { past = []; is = sym (append-nil log); own = All-nil _ }
noted-on seat log (Some said) es =
    let w = next_note seat log said (brought said es) in
    record { past = w ∷ []; is = refl; own = All-cons (λ v. seat_of v ≡ seat) w [] refl (All-nil _) }

pub goes-by : (seat holder : ℕ) (log taken after : List Written) (notes : Option What) (es : List Entry) → after ≡ with_noted seat log notes es → log ≡ taken → seat ≡ holder → GoesOn seat_of holder taken after
goes-by seat holder log taken after notes es noted same own =
    subst (λ k. GoesOn seat_of k taken after) own (subst (λ ws. GoesOn seat_of seat ws after) same (subst (GoesOn seat_of seat log) (sym noted) (noted-on seat log notes es)))

-- ---- how many calls were made
calls-few : (seat : ℕ) (ws : List Written) → calls_by seat ws ≤ length ws
calls-few seat [] = omega arith
calls-few seat (w ∷ ws) = omega (arith, at-most-one (w.note.seat == seat), calls-few seat ws)
  where
    at-most-one : (own : Bool) → one_if own ≤ 1
    at-most-one true = omega arith
    at-most-one false = omega arith

noted-calls : (seat : ℕ) (log : List Written) (notes : Option What) (es : List Entry) → calls_by seat (with_noted seat log notes es) ≡ calls_by seat log + noted_count notes
noted-calls seat log None es = omega arith
noted-calls seat log (Some said) es = calls_by-next seat log said (brought said es)

module _ (seat seat' calls : ℕ) (log after seen : List Written) (notes : Option What) (es : List Entry) (made : calls ≡ calls_by seat' log) (noted : after ≡ with_noted seat' log notes es) (all : seen ≡ after) where
  count-is : calls + noted_count notes ≡ calls_by seat' seen
  count-is = omega (arith, made, noted-calls seat' log notes es, ap (calls_by seat') all, ap (calls_by seat') noted)

  pub few-by : (many : ℕ) → many ≡ length seen → calls + noted_count notes ≤ many
  few-by many is = omega (arith, count-is, calls-few seat' seen, is)

  pub count-by : (count : ℕ) → count ≡ calls + noted_count notes → seat' ≡ seat → count ≡ calls_by seat seen
  count-by count is own = is ∙ count-is ∙ ap (λ k. calls_by k seen) own

-- ---- a stop
abbrev pub stop_notes : Bool → Cause → Option What
stop_notes true why = None
stop_notes false why = Some (what.Stop why)

stopped-by : (asked : Bool) (seat : ℕ) (log : List Written) (why : Cause) → (if asked then log else log ++ next_note seat log (what.Stop why) [] ∷ []) ≡ with_noted seat log (stop_notes asked why) []
stopped-by true seat log why = refl
stopped-by false seat log why = refl

pub stop-noted : (seat : ℕ) (log after : List Written) (why : Cause) → after ≡ (if has_asked seat log then log else log ++ next_note seat log (what.Stop why) [] ∷ []) → after ≡ with_noted seat log (stop_notes (has_asked seat log) why) []
stop-noted seat log after why is = is ∙ stopped-by (has_asked seat log) seat log why

noted-length : (seat : ℕ) (log : List Written) (notes : Option What) (es : List Entry) → length (with_noted seat log notes es) ≡ length log + noted_count notes
noted-length seat log None es = omega arith
noted-length seat log (Some said) es = length-append log (next_note seat log said (brought said es) ∷ [])

pub more-by : (seat : ℕ) (log after seen : List Written) (notes : Option What) (es : List Entry) (before many : ℕ) → after ≡ with_noted seat log notes es → seen ≡ after → before ≡ length log → many ≡ length seen
    → many ≡ before + noted_count notes
more-by seat log after seen notes es before many noted all was is =
    omega (arith, noted-length seat log notes es, ap (λ (ws : List Written). length ws) noted, ap (λ (ws : List Written). length ws) all, was, is)
