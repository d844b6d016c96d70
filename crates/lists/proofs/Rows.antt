-- Lists and their lengths.
use Rattle.std.proofs.Common.{List, [], ap, arith, drop, get_or, length, refl, suc, take, zero, ℕ, ◌++◌, ◌<◌, ◌∷◌, ◌≡◌, sym, ◌+◌, ◌-◌, ◌≤◌, ◌∙◌}
use Rattle.std.proofs.Math.Seq.{take-add}
use Rattle.std.proofs.lemmas.List.{length-take, take-take}

pub none_of_length_0 : {A : Type 0} (xs : List A) → length xs ≡ 0 → xs ≡ []
none_of_length_0 [] none = refl
none_of_length_0 (x ∷ xs) none = absurd (omega (arith, none))

pub front_by_its_length : (n : ℕ) (all : List ℕ) → take n all ≡ take (length (take n all)) all
front_by_its_length zero all = refl
front_by_its_length (suc n) [] = refl
front_by_its_length (suc n) (x ∷ all) = ap (λ (l : List ℕ). x ∷ l) (front_by_its_length n all)

-- a list is what stands before a place, what stands there, and what stands after
pub parted : {A : Type 0} (xs : List A) (i : ℕ) (d : A) → i < length xs → xs ≡ take i xs ++ get_or xs i d ∷ drop (suc i) xs
parted [] i d inside = absurd (omega (arith, inside))
parted (x ∷ xs) zero d inside = refl
parted {A = A} (x ∷ xs) (suc i) d inside = ap (λ (ys : List A). x ∷ ys) (parted xs i d (omega (arith, inside)))

-- the first of the rest follow those that were taken
pub take_further : (xs : List ℕ) (done n : ℕ) → done ≤ length xs → n ≤ length (take (length xs - done) (drop done xs)) → (done + n ≤ length xs) × (take done xs ++ take n (take (length xs - done) (drop done xs)) ≡ take (done + n) xs)
take_further xs done n inside fits =
    let few : n ≤ length xs - done = omega (arith, length-take (length xs - done) (drop done xs)) in
    (omega (arith, few), ap (λ (piece : List ℕ). take done xs ++ piece) (take-take n (length xs - done) (drop done xs) few) ∙ sym (take-add done n xs))
