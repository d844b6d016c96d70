-- What seats have seen of a shared history.
use Rattle.std.proofs.Common.{◌≡◌, ◌≢◌, ℕ, suc, zero, ◌<◌, Bool, true, ◌==◌, List, [], ◌∷◌, ◌++◌, length, slice_index_or, ap, ◌∙◌, arith, eq-eqb, append_assoc, if◌then◌else◌}
use Rattle.std.specs.Prelude.{All}
use Rattle.std.specs.List.{Contains}
use Rattle.std.proofs.lemmas.List.Elements.{All-append, All-contains}
use Rattle.turn_lock.specs.Histories.{Follows}
use Rattle.shared_book.specs.declared.note.Written.{Written}
use Rattle.shared_book.specs.Notes.{calls_by}

abbrev counted : Bool → ℕ
counted b = if b then 1 else 0

-- a seat without calls has no note
pub no_note : (seat : ℕ) (ws : List Written) → calls_by seat ws ≡ 0 → (k : ℕ) (d : Written) → k < length ws → (slice_index_or ws k d).note.seat ≡ seat → ⊥
no_note seat [] none k d inside is = absurd (omega (arith, inside))
no_note seat (w ∷ ws) none zero d inside is =
    let one : counted (w.note.seat == seat) ≡ counted true = ap counted (eq-eqb w.note.seat seat is) in
    absurd (omega (arith, one, none))
no_note seat (w ∷ ws) none (suc k) d inside is = no_note seat ws (omega (arith, none)) k d (omega (arith, inside)) is

module _ {E : Type 0} (seat_of : E → ℕ) where
  -- what one seat had seen, and then several of which it is one
  pub follows_on : (seat : ℕ) (seats : List ℕ) (seen log later : List E) → Contains seats seat → Follows seat_of (seat ∷ []) seen log → Follows seat_of seats log later → Follows seat_of (seat ∷ []) seen later
  follows_on seat seats seen log later among first second = record {
    past = first.past ++ second.past;
    is = second.is ∙ ap (λ l. l ++ second.past) first.is ∙ append_assoc seen first.past second.past;
    none = All-append (λ e. All (λ k. k ≢ seat_of e) (seat ∷ [])) first.past second.past first.none none_of;
  }
    where
      none_of : All (λ e. All (λ k. k ≢ seat_of e) (seat ∷ [])) second.past
      none_of k d inside zero s here = All-contains (λ n. n ≢ seat_of (slice_index_or second.past k d)) seats seat (second.none k d inside) among
      none_of k d inside (suc n) s here = absurd (omega (arith, here))
