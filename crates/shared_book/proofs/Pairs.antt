-- The notes and all entries in a row tell which entries came with which note.
use Rattle.std.proofs.Common.{◌≡◌, ℕ, ◌+◌, Bool, true, false, not, ◌&&◌, ◌==◌, List, [], ◌∷◌, ◌++◌, length, take, drop, Option, Some, None, is_some, refl, sym, ap, ap₂, ◌∙◌, subst, arith, append-nil, append_assoc, eqb-true}
use Rattle.std.specs.Option.{option_or}
use Rattle.std.proofs.Math.Seq.{take-append_seam, drop-append_seam}
use Rattle.std.proofs.lemmas.Bool.{and_parts}
use Rattle.rollout_rules.specs.declared.op.Entry.{Entry}
use Rattle.rollout_rules.specs.declared.op.Entry.TheVariants.{Begin, Done}
use Rattle.shared_book.specs.declared.note.What.{What}
use Rattle.shared_book.specs.declared.note.What.TheVariants as what
use Rattle.shared_book.specs.declared.note.Note.{Note}
use Rattle.shared_book.specs.declared.note.Written.{Written}
use Rattle.shared_book.specs.declared.call_reply.Halt.{Halt}
use Rattle.shared_book.specs.Batches.{dones_ahead, behind_dones, is_batch}
use Rattle.shared_book.specs.Notes.{notes_of, halt_by, first_stop, is_stopped}
use Rattle.shared_book.specs.Histories.{Opening, history_of, own_of, left_by, written, all_entries}
use Rattle.shared_book.specs.Legal.{is_empty, is_turn, may_say, may_note, may_go_on, is_legal_shared}
use Rattle.shared_book.proofs.Stops.{no_entries, of_three, of_four, none_behind, first_stop-append}

-- a list is its Dones ahead, and the rest
pub long-parts : (es : List Entry) → length (dones_ahead es) + length (behind_dones es) ≡ length es
long-parts [] = omega arith
long-parts (Begin op ∷ es) = omega arith
long-parts (Done op ∷ es) = omega (arith, long-parts es)

-- Entries are found again, which came with a note and stand ahead of others.
record AreFound (said : What) (es rest : List Entry) : Type 0 where
  own : own_of said (es ++ rest) ≡ es
  left : left_by said (es ++ rest) ≡ rest

-- of a note that brings none
none_own : (es rest : List Entry) → es ≡ [] → ([] ≡ es) × (es ++ rest ≡ rest)
none_own es rest none = (sym none, ap (λ xs. xs ++ rest) none)

by_counts : (n : ℕ) (es rest : List Entry) → n ≡ length es → (take n (es ++ rest) ≡ es) × (drop n (es ++ rest) ≡ rest)
by_counts n es rest is =
    (ap (λ k. take k (es ++ rest)) is ∙ take-append_seam es rest, ap (λ k. drop k (es ++ rest)) is ∙ drop-append_seam es rest)

module _ (o : Opening) (ws : List Written) (seat : ℕ) (es rest : List Entry) where
  found_again : (said : What) → may_say o ws seat es said ≡ true → (said ≡ what.Disk → rest ≡ []) → AreFound said es rest
  found_again (what.Turned dones begins) may none =
      let turn = (and_parts (not (is_stopped ws)) (is_turn o (history_of o ws) dones begins es) may).1 in
      let counts = (and_parts ((length (dones_ahead es) == dones) && (length (behind_dones es) == begins)) _ turn).0 in
      let both = and_parts (length (dones_ahead es) == dones) (length (behind_dones es) == begins) counts in
      let f = by_counts (dones + begins) es rest (omega (arith, long-parts es, eqb-true (length (dones_ahead es)) dones both.0, eqb-true (length (behind_dones es)) begins both.1)) in
      record { own = f.0; left = f.1 }
  found_again (what.Alien item held begun) may none = let f = none_own es rest (no_entries es (of_four _ _ _ _ may).1) in record { own = f.0; left = f.1 }
  found_again what.Disk may none = record { own = ap (λ xs. es ++ xs) (none refl) ∙ append-nil es; left = sym (none refl) }
  found_again what.Listed may none = let f = none_own es rest (no_entries es (and_parts _ _ may).1) in record { own = f.0; left = f.1 }
  found_again what.Work may none = let f = none_own es rest (no_entries es (of_three _ _ _ may).1) in record { own = f.0; left = f.1 }
  found_again what.Finished may none = let f = none_own es rest (no_entries es (of_three _ _ _ may).1) in record { own = f.0; left = f.1 }
  found_again what.Held may none = let f = none_own es rest (no_entries es (of_four _ _ _ _ may).1) in record { own = f.0; left = f.1 }
  found_again what.Stopped may none = let f = none_own es rest (no_entries es (and_parts _ _ may).1) in record { own = f.0; left = f.1 }
  found_again (what.Stop why) may none = let f = none_own es rest (no_entries es (and_parts _ _ may).1) in record { own = f.0; left = f.1 }

disk-stops : (ws : List Written) (w : Written) → w.note.what ≡ what.Disk → is_stopped (ws ++ w ∷ []) ≡ true
disk-stops ws w disk = ap is_some (first_stop-append ws (w ∷ [])) ∙ some-or (first_stop ws) (first_stop (w ∷ [])) (stops w.note disk)
  where
    some-or : (a b : Option Halt) → is_some b ≡ true → is_some (option_or a b) ≡ true
    some-or (Some x) b e = refl
    some-or None b e = e

    stops : (note : Note) → note.what ≡ what.Disk → is_some (option_or (halt_by note) None) ≡ true
    stops note is = ap (λ said. is_some (option_or (halt_by (record note { what = said })) None)) is

module _ (o : Opening) where
  pub pair-back : (ws later : List Written) → may_go_on o ws later ≡ true → written (all_entries later) (notes_of later) ≡ later
  pair-back ws [] may = refl
  pair-back ws (w ∷ later) may =
      let parts = and_parts (may_note o ws w) (may_go_on o (ws ++ w ∷ []) later) may in
      let says = (and_parts _ (may_say o ws w.note.seat w.entries w.note.what) parts.0).1 in
      let found = found_again o ws w.note.seat w.entries (all_entries later) w.note.what says
      (λ disk. none_behind o (ws ++ w ∷ []) later (disk-stops ws w disk) parts.1) in
      ap₂ (λ es vs. record { note = w.note; entries = es } ∷ vs) found.own (ap (λ es. written es (notes_of later)) found.left ∙ pair-back (ws ++ w ∷ []) later parts.1)

  pub pair-tells : (ws : List Written) → is_legal_shared o ws ≡ true → written (all_entries ws) (notes_of ws) ≡ ws
  pair-tells ws legal = pair-back [] ws (and_parts _ (may_go_on o [] ws) legal).1
