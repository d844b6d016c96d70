-- Tests of equality: what passes one is equal.
use Rattle.std.proofs.Common.{Bool, List, [], ap, ap₂, eqb-true, false, not, refl, sym, true, ℕ, ◌==◌, ◌∷◌, ◌≡◌}
use Rattle.std.proofs.lemmas.Bool.{and_parts}
use Rattle.rollout_rules.specs.Sums.{same_numbers}
use Rattle.rollout_rules.specs.Valid.{same_mark}

pub same_numbers-is : (xs ys : List ℕ) → same_numbers xs ys ≡ true → xs ≡ ys
same_numbers-is [] [] e = refl
same_numbers-is [] (y ∷ ys) e = cc
same_numbers-is (x ∷ xs) [] e = cc
same_numbers-is (x ∷ xs) (y ∷ ys) e = let both = and_parts (x == y) (same_numbers xs ys) e in ap₂ (λ a b. a ∷ b) (eqb-true x y both.0) (same_numbers-is xs ys both.1)

pub same_mark-is : (a b : Bool) → same_mark a b ≡ true → a ≡ b
same_mark-is true b e = sym e
same_mark-is false true e = cc
same_mark-is false false e = refl

pub same_mark-from : (a b : Bool) → a ≡ b → same_mark a b ≡ true
same_mark-from true b e = sym e
same_mark-from false b e = ap not (sym e)
