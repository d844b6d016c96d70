-- The first stop stands, and after it nothing is added.
use Rattle.std.proofs.Common.{◌≡◌, ℕ, Bool, true, false, not, ◌&&◌, List, [], ◌∷◌, ◌++◌, Option, Some, None, is_some, refl, sym, ap, ◌∙◌, subst, append_assoc, append-nil}
use Rattle.std.specs.Option.{option_or}
use Rattle.std.proofs.lemmas.Bool.{and_parts}
use Rattle.rollout_rules.specs.History.{with_entries}
use Rattle.rollout_rules.specs.declared.op.Entry.{Entry}
use Rattle.shared_book.specs.declared.note.What.{What}
use Rattle.shared_book.specs.declared.note.What.TheVariants as what
use Rattle.shared_book.specs.declared.note.Written.{Written}
use Rattle.shared_book.specs.declared.call_reply.Halt.{Halt}
use Rattle.shared_book.specs.Notes.{halt_by, first_stop, is_stopped}
use Rattle.shared_book.specs.Histories.{Opening, segment_of, added, history_of, all_entries}
use Rattle.shared_book.specs.Legal.{is_empty, may_say, may_note, may_go_on, is_legal_shared}
use Rattle.shared_book.proofs.Going.{back_goes_on}

or_assoc : (a b c : Option Halt) → option_or (option_or a b) c ≡ option_or a (option_or b c)
or_assoc (Some x) b c = refl
or_assoc None b c = refl

pub first_stop-append : (ws vs : List Written) → first_stop (ws ++ vs) ≡ option_or (first_stop ws) (first_stop vs)
first_stop-append [] vs = refl
first_stop-append (w ∷ ws) vs = ap (option_or (halt_by w.note)) (first_stop-append ws vs) ∙ sym (or_assoc (halt_by w.note) (first_stop ws) (first_stop vs))

pub first_stop-stays : (ws vs : List Written) (halt : Halt) → first_stop ws ≡ Some halt → first_stop (ws ++ vs) ≡ Some halt
first_stop-stays ws vs halt is = first_stop-append ws vs ∙ ap (λ s. option_or s (first_stop vs)) is

is_some-or : (a b : Option Halt) → is_some a ≡ true → is_some (option_or a b) ≡ true
is_some-or (Some x) b e = refl
is_some-or None b e = absurd (cc e)

pub is_stopped-stays : (ws vs : List Written) → is_stopped ws ≡ true → is_stopped (ws ++ vs) ≡ true
is_stopped-stays ws vs is = ap is_some (first_stop-append ws vs) ∙ is_some-or (first_stop ws) (first_stop vs) is

-- what is said before a stop alone isn't said after one
not_behind : (stopped : Bool) → stopped ≡ true → not stopped ≡ true → ⊥
not_behind true e before = cc before
not_behind false e before = cc e

-- the first two of three tests, and of four
pub of_three : (a b c : Bool) → (a && b && c) ≡ true → (a ≡ true) × (b ≡ true)
of_three a b c all = and_parts a b (and_parts (a && b) c all).0

pub of_four : (a b c d : Bool) → (a && b && c && d) ≡ true → (a ≡ true) × (b ≡ true)
of_four a b c d all = of_three a b c (and_parts (a && b && c) d all).0

pub no_entries : (es : List Entry) → is_empty es ≡ true → es ≡ []
no_entries [] e = refl
no_entries (x ∷ xs) e = absurd (cc e)

module _ (o : Opening) (ws : List Written) (seat : ℕ) (es : List Entry) (stopped : is_stopped ws ≡ true) where
  -- after a stop a note adds nothing, and brings no entries
  no_segment : (said : What) → may_say o ws seat es said ≡ true → segment_of said es ≡ []
  no_segment (what.Turned dones begins) may = absurd (not_behind (is_stopped ws) stopped (and_parts _ _ may).0)
  no_segment (what.Alien item held begun) may = refl
  no_segment what.Disk may = refl
  no_segment what.Listed may = refl
  no_segment what.Work may = refl
  no_segment what.Finished may = refl
  no_segment what.Held may = refl
  no_segment what.Stopped may = refl
  no_segment (what.Stop why) may = refl

  none_brought : (said : What) → may_say o ws seat es said ≡ true → es ≡ []
  none_brought (what.Turned dones begins) may = absurd (not_behind (is_stopped ws) stopped (and_parts _ _ may).0)
  none_brought (what.Alien item held begun) may = no_entries es (of_four _ _ _ _ may).1
  none_brought what.Disk may = absurd (not_behind (is_stopped ws) stopped (and_parts _ _ may).0)
  none_brought what.Listed may = no_entries es (and_parts _ _ may).1
  none_brought what.Work may = no_entries es (of_three _ _ _ may).1
  none_brought what.Finished may = no_entries es (of_three _ _ _ may).1
  none_brought what.Held may = no_entries es (of_four _ _ _ _ may).1
  none_brought what.Stopped may = no_entries es (and_parts (is_stopped ws) (is_empty es) may).1
  none_brought (what.Stop why) may = no_entries es (and_parts _ (is_empty es) may).1

module _ (o : Opening) where
  says_of : (ws : List Written) (w : Written) (later : List Written) → may_go_on o ws (w ∷ later) ≡ true → (may_say o ws w.note.seat w.entries w.note.what ≡ true) × (may_go_on o (ws ++ w ∷ []) later ≡ true)
  says_of ws w later may =
      let parts = and_parts (may_note o ws w) (may_go_on o (ws ++ w ∷ []) later) may in
      ((and_parts _ (may_say o ws w.note.seat w.entries w.note.what) parts.0).1, parts.1)

  none_added : (ws later : List Written) → is_stopped ws ≡ true → may_go_on o ws later ≡ true → added later ≡ []
  none_added ws [] stopped may = refl
  none_added ws (w ∷ later) stopped may =
      let parts = says_of ws w later may in
      ap (λ es. es ++ added later) (no_segment o ws w.note.seat w.entries stopped w.note.what parts.0)
      ∙ none_added (ws ++ w ∷ []) later (is_stopped-stays ws (w ∷ []) stopped) parts.1

  pub none_behind : (ws later : List Written) → is_stopped ws ≡ true → may_go_on o ws later ≡ true → all_entries later ≡ []
  none_behind ws [] stopped may = refl
  none_behind ws (w ∷ later) stopped may =
      let parts = says_of ws w later may in
      ap (λ es. es ++ all_entries later) (none_brought o ws w.note.seat w.entries stopped w.note.what parts.0)
      ∙ none_behind (ws ++ w ∷ []) later (is_stopped-stays ws (w ∷ []) stopped) parts.1

  pub added-append : (ws vs : List Written) → added (ws ++ vs) ≡ added ws ++ added vs
  added-append [] vs = refl
  added-append (w ∷ ws) vs = ap (λ es. segment_of w.note.what w.entries ++ es) (added-append ws vs) ∙ sym (append_assoc (segment_of w.note.what w.entries) (added ws) (added vs))

  pub nothing_added : (ws later : List Written) → is_legal_shared o (ws ++ later) ≡ true → is_stopped ws ≡ true → history_of o (ws ++ later) ≡ history_of o ws
  nothing_added ws later legal stopped =
      ap (with_entries o.found) (added-append ws later ∙ ap (λ es. added ws ++ es) (none_added ws later stopped (back_goes_on o ws later legal)) ∙ append-nil (added ws))
