-- How a shared history goes on, note by note.
use Rattle.std.proofs.Common.{◌≡◌, ℕ, ◌+◌, true, ◌&&◌, ◌==◌, cond, List, [], ◌∷◌, ◌++◌, refl, sym, ap, ◌∙◌, arith, append_assoc, append-nil, eq-eqb, eqb-true}
use Rattle.std.proofs.lemmas.Bool.{and_parts, and_from}
use Rattle.lists.proofs.Conditions.{and_regrouped_back}
use Rattle.rollout_rules.specs.Legal.{is_legal}
use Rattle.rollout_rules.specs.declared.op.Entry.{Entry}
use Rattle.shared_book.specs.declared.note.What.{What}
use Rattle.shared_book.specs.declared.note.Written.{Written}
use Rattle.shared_book.specs.Notes.{calls_by}
use Rattle.shared_book.specs.Histories.{Opening}
use Rattle.shared_book.specs.Legal.{may_say, may_note, may_go_on, is_legal_shared}
use Rattle.shared_book.specs.Knows.{next_note}

module _ (o : Opening) where
  pub may_go_on-append : (ws xs ys : List Written) → may_go_on o ws (xs ++ ys) ≡ (may_go_on o ws xs && may_go_on o (ws ++ xs) ys)
  may_go_on-append ws [] ys = ap (λ vs. may_go_on o vs ys) (sym (append-nil ws))
  may_go_on-append ws (x ∷ xs) ys =
      ap (λ b. may_note o ws x && b) (may_go_on-append (ws ++ x ∷ []) xs ys ∙ ap (λ vs. may_go_on o (ws ++ x ∷ []) xs && may_go_on o vs ys) (append_assoc ws (x ∷ []) xs))
      ∙ sym (and_regrouped_back (may_note o ws x) (may_go_on o (ws ++ x ∷ []) xs) (may_go_on o (ws ++ x ∷ xs) ys))

  pub goes_on : (ws later : List Written) → is_legal_shared o ws ≡ true → may_go_on o ws later ≡ true → is_legal_shared o (ws ++ later) ≡ true
  goes_on ws later legal may =
      let parts = and_parts (is_legal o.rollout.problem o.rollout.plan o.found) (may_go_on o [] ws) legal in
      and_from (is_legal o.rollout.problem o.rollout.plan o.found) (may_go_on o [] (ws ++ later)) parts.0
      (may_go_on-append [] ws later ∙ and_from (may_go_on o [] ws) (may_go_on o ws later) parts.1 may)

  parts_of : (ws later : List Written) → is_legal_shared o (ws ++ later) ≡ true → (is_legal o.rollout.problem o.rollout.plan o.found ≡ true) × (may_go_on o [] ws ≡ true) × (may_go_on o ws later ≡ true)
  parts_of ws later legal =
      let parts = and_parts (is_legal o.rollout.problem o.rollout.plan o.found) (may_go_on o [] (ws ++ later)) legal in
      let both = and_parts (may_go_on o [] ws) (may_go_on o ws later) (sym (may_go_on-append [] ws later) ∙ parts.1) in
      (parts.0, both.0, both.1)

  pub front_is_legal : (ws later : List Written) → is_legal_shared o (ws ++ later) ≡ true → is_legal_shared o ws ≡ true
  front_is_legal ws later legal = let parts = parts_of ws later legal in
      and_from (is_legal o.rollout.problem o.rollout.plan o.found) (may_go_on o [] ws) parts.0 parts.1

  pub back_goes_on : (ws later : List Written) → is_legal_shared o (ws ++ later) ≡ true → may_go_on o ws later ≡ true
  back_goes_on ws later legal = (parts_of ws later legal).2

  pub next_may_be : (ws later : List Written) (w : Written) → is_legal_shared o (ws ++ w ∷ later) ≡ true → may_note o ws w ≡ true
  next_may_be ws later w legal = (and_parts (may_note o ws w) (may_go_on o (ws ++ w ∷ []) later) (back_goes_on ws (w ∷ later) legal)).0

  -- the note of a seat's next call
  pub next_is_noted : (ws : List Written) (seat : ℕ) (said : What) (es : List Entry) → may_say o ws seat es said ≡ true → may_note o ws (next_note seat ws said es) ≡ true
  next_is_noted ws seat said es may = and_from (calls_by seat ws == calls_by seat ws) (may_say o ws seat es said) (eq-eqb (calls_by seat ws) (calls_by seat ws) refl) may

  pub one_more : (ws : List Written) (seat : ℕ) (said : What) (es : List Entry) → is_legal_shared o ws ≡ true → may_say o ws seat es said ≡ true → is_legal_shared o (ws ++ next_note seat ws said es ∷ []) ≡ true
  one_more ws seat said es legal may =
      goes_on ws (next_note seat ws said es ∷ []) legal (and_from (may_note o ws (next_note seat ws said es)) true (next_is_noted ws seat said es may) refl)

  pub is_numbered : (ws later : List Written) (w : Written) → is_legal_shared o (ws ++ w ∷ later) ≡ true → w.note.call ≡ calls_by w.note.seat ws
  is_numbered ws later w legal =
      eqb-true w.note.call (calls_by w.note.seat ws) (and_parts (w.note.call == calls_by w.note.seat ws) (may_say o ws w.note.seat w.entries w.note.what) (next_may_be ws later w legal)).0

-- the calls of a seat, counted over two histories in a row, and with one more of its own
pub calls_by-append : (seat : ℕ) (ws vs : List Written) → calls_by seat (ws ++ vs) ≡ calls_by seat ws + calls_by seat vs
calls_by-append seat [] vs = omega arith
calls_by-append seat (w ∷ ws) vs = omega (arith, calls_by-append seat ws vs)

pub calls_by-next : (seat : ℕ) (ws : List Written) (said : What) (es : List Entry) → calls_by seat (ws ++ next_note seat ws said es ∷ []) ≡ calls_by seat ws + 1
calls_by-next seat ws said es =
    let own : cond (seat == seat) 1 0 ≡ 1 = ap {B = ℕ} (λ b. cond b 1 0) (eq-eqb seat seat refl) in
    omega (arith, calls_by-append seat ws (next_note seat ws said es ∷ []), own)
