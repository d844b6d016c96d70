-- A seat that has stopped nothing yet.
use Rattle.std.proofs.Common.{◌≡◌, ◌≢◌, ℕ, Bool, true, false, ◌&&◌, ◌==◌, List, [], ◌∷◌, ◌++◌, All, Option, Some, None, option_map, refl, sym, ap, ◌∙◌, subst, arith, eqb-true, if◌then◌else◌}
use Rattle.std.specs.Option.{option_or}
use Rattle.std.proofs.lemmas.Bool.{and_left, and_right, eqb-false, or_from}
use Rattle.std.proofs.lemmas.List.Elements.{All-append, All-cons, All-head, All-nil, All-tail}
use Rattle.turn_lock.specs.Histories.{Follows}
use Rattle.shared_book.specs.declared.note.Cause.{Cause}
use Rattle.shared_book.specs.declared.note.What.{What}
use Rattle.shared_book.specs.declared.note.What.TheVariants as what
use Rattle.shared_book.specs.declared.note.Written.{Written}
use Rattle.shared_book.specs.declared.call_reply.Halt.{Halt}
use Rattle.shared_book.specs.Notes.{asks_to_stop, calls_by, cause_of, first_stop, halt_by, has_asked}
use Rattle.shared_book.specs.Calls.{seat_of}
use Rattle.controller_run.specs.Promises.{StopsNothing}

-- the rule for each note
abbrev pub IsQuiet : ℕ → Written → Type 0
IsQuiet seat w = w.note.seat ≡ seat → cause_of w.note.what ≡ None

asks-not : (said : What) → cause_of said ≡ None → asks_to_stop said ≡ false
asks-not (what.Turned dones begins) e = refl
asks-not (what.Alien item held begun) e = absurd (cc e)
asks-not what.Disk e = absurd (cc e)
asks-not what.Listed e = refl
asks-not what.Work e = refl
asks-not what.Finished e = refl
asks-not what.Held e = refl
asks-not what.Stopped e = refl
asks-not (what.Stop why) e = absurd (cc e)

some-none : (why : Cause) → Some why ≡ None → ⊥
some-none why e = cc e

pub none_is_no_halt : (halt : Halt) → None ≡ Some halt → ⊥
none_is_no_halt halt e = cc e

module _ (seat : ℕ) where
  one-asks-not : (w : Written) (own : Bool) → (w.note.seat == seat) ≡ own → IsQuiet seat w → ((w.note.seat == seat) && asks_to_stop w.note.what) ≡ false
  one-asks-not w true is quiet = and_right (w.note.seat == seat) (asks_to_stop w.note.what) (asks-not w.note.what (quiet (eqb-true w.note.seat seat is)))
  one-asks-not w false is quiet = and_left (w.note.seat == seat) (asks_to_stop w.note.what) is

  pub quiet-asks-not : (ws : List Written) → StopsNothing seat ws → has_asked seat ws ≡ false
  quiet-asks-not [] quiet = refl
  quiet-asks-not (w ∷ ws) quiet =
      or_from ((w.note.seat == seat) && asks_to_stop w.note.what) (has_asked seat ws) (one-asks-not w (w.note.seat == seat) refl (All-head (IsQuiet seat) w ws quiet)) (quiet-asks-not ws (All-tail (IsQuiet seat) w ws quiet))

  -- who has made no call has stopped nothing
  uncalled-one : (w : Written) (ws : List Written) (own : Bool) → (w.note.seat == seat) ≡ own → calls_by seat (w ∷ ws) ≡ 0 → (w.note.seat ≢ seat) × (calls_by seat ws ≡ 0)
  uncalled-one w ws true is none = let one = ap {B = ℕ} (λ (b : Bool). if b then 1 else 0) is in absurd (omega (arith, one, none))
  uncalled-one w ws false is none = let one = ap {B = ℕ} (λ (b : Bool). if b then 1 else 0) is in (eqb-false w.note.seat seat is, omega (arith, one, none))

  pub quiet-uncalled : (ws : List Written) → calls_by seat ws ≡ 0 → StopsNothing seat ws
  quiet-uncalled [] none = All-nil (IsQuiet seat)
  quiet-uncalled (w ∷ ws) none =
      let parts = uncalled-one w ws (w.note.seat == seat) refl none in
      All-cons (IsQuiet seat) w ws (λ own. absurd (parts.0 own)) (quiet-uncalled ws parts.1)

  -- with notes of others
  pub quiet-others : (ws past : List Written) → StopsNothing seat ws → All (λ (w : Written). seat ≢ w.note.seat) past → StopsNothing seat (ws ++ past)
  quiet-others ws past quiet none = All-append (IsQuiet seat) ws past quiet (λ k d inside own. absurd (none k d inside (sym own)))

  pub quiet-past : (joined : List ℕ) (seen log : List Written) → StopsNothing seat seen → Follows seat_of (seat ∷ joined) seen log → StopsNothing seat log
  quiet-past joined seen log quiet past =
      subst (StopsNothing seat) (sym past.is)
      (All-append (IsQuiet seat) seen past.past quiet (λ k d inside own. absurd (past.none k d inside 0 seat (omega arith) (sym own))))

  -- the first stop is another's
  by-note : (w : Written) (why : Option Cause) (rest : Option Halt) → cause_of w.note.what ≡ why → option_or (halt_by w.note) rest ≡ option_or (option_map (λ (c : Cause). record { seat = w.note.seat; call = w.note.call; cause = c }) why) rest
  by-note w why rest is = ap (λ (c : Option Cause). option_or (option_map (λ (d : Cause). record { seat = w.note.seat; call = w.note.call; cause = d }) c) rest) is

  of-note : (w : Written) (why : Option Cause) (rest : Option Halt) (halt : Halt) → cause_of w.note.what ≡ why → option_or (halt_by w.note) rest ≡ Some halt → (rest ≡ Some halt → halt.seat ≢ seat) → IsQuiet seat w → halt.seat ≢ seat
  of-note w None rest halt is first later quiet = later (sym (by-note w None rest is) ∙ first)
  of-note w (Some why) rest halt is first later quiet =
      let mine : Halt = record { seat = w.note.seat; call = w.note.call; cause = why } in
      let told : Some mine ≡ Some halt = sym (by-note w (Some why) rest is) ∙ first in
      let same : mine ≡ halt = cc told in
      λ own. some-none why (sym is ∙ quiet (ap (λ (h : Halt). h.seat) same ∙ own))

  pub quiet-first : (ws : List Written) (halt : Halt) → StopsNothing seat ws → first_stop ws ≡ Some halt → halt.seat ≢ seat
  quiet-first [] halt quiet first = λ own. none_is_no_halt halt first
  quiet-first (w ∷ ws) halt quiet first = of-note w (cause_of w.note.what) (first_stop ws) halt refl first (λ later. quiet-first ws halt (All-tail (IsQuiet seat) w ws quiet) later) (All-head (IsQuiet seat) w ws quiet)
