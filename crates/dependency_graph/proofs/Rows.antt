-- What a row of numbers has.
use Rattle.std.proofs.Common.{◌≡◌, ℕ, zero, suc, ◌<◌, true, false, ◌==◌, List, [], ◌∷◌, length, slice_index, subst, inl, inr, arith, eq-eqb, eqb-true}
use Rattle.std.specs.List.{AllByRecursion}
use Rattle.std.proofs.lemmas.Bool.{or_cases, or_left, or_right, or_parts, eqb-false}
use Rattle.dependency_graph.specs.Cells.{has}

-- the row has what stands at one of its places
pub has-at : (row : List ℕ) (k q : ℕ) → k < length row → slice_index row k ≡ q → has row q ≡ true
has-at [] k q lt is = absurd (omega arith)
has-at (n ∷ ns) zero q lt is = or_left (n == q) (has ns q) (eq-eqb n q is)
has-at (n ∷ ns) (suc k) q lt is = or_right (n == q) (has ns q) (has-at ns k q (omega arith) is)

-- what holds of each holds of what the row has
pub each-has : (P : ℕ → Type 0) (row : List ℕ) (q : ℕ) → AllByRecursion P row → has row q ≡ true → P q
each-has P [] q all here = absurd (cc)
each-has P (n ∷ ns) q all here = elim (or_cases (n == q) (has ns q) here) as (λ _. P q) [
  | inl this ↦ subst P (eqb-true n q this) all.0
  | inr behind ↦ each-has P ns q all.1 behind
]

-- and what of each but one holds of each where the row doesn't have that
pub each-but : (P Q : ℕ → Type 0) (row : List ℕ) (i : ℕ) → ((n : ℕ) → (n ≡ i → ⊥) → P n → Q n) → has row i ≡ false → AllByRecursion P row → AllByRecursion Q row
each-but P Q [] i step none all = tt
each-but P Q (n ∷ ns) i step none all =
    let parts = or_parts (n == i) (has ns i) none in
    (step n (eqb-false n i parts.0) all.0, each-but P Q ns i step parts.1 all.1)
