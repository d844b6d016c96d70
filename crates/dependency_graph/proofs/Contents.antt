-- When two contents of a flow are the same.
use Rattle.std.proofs.Common.{◌≡◌, ℕ, zero, suc, Bool, true, false, ◌&&◌, List, [], ◌∷◌, ◌++◌, length, refl, sym, ap, ◌∙◌, arith, nat_eq, ◌==◌}
use Rattle.lists.proofs.Conditions.{and_regrouped}
use Rattle.rollout_rules.specs.Sums.{list_below, all_below, same_numbers}
use Rattle.rollout_rules.proofs.Rows.{list_below-length}

and_true : (a : Bool) → (a && true) ≡ (true && a)
and_true true = refl
and_true false = refl

same_numbers-push : (xs ys : List ℕ) (x y : ℕ) → length xs ≡ length ys → same_numbers (xs ++ x ∷ []) (ys ++ y ∷ []) ≡ (same_numbers xs ys && nat_eq x y)
same_numbers-push [] [] x y e = and_true (nat_eq x y)
same_numbers-push [] (b ∷ ys) x y e = absurd (omega arith)
same_numbers-push (a ∷ xs) [] x y e = absurd (omega arith)
same_numbers-push (a ∷ xs) (b ∷ ys) x y e = ap (λ v. nat_eq a b && v) (same_numbers-push xs ys x y (omega arith)) ∙ and_regrouped (nat_eq a b) (same_numbers xs ys) (nat_eq x y)

pub same-below : (n : ℕ) (f g : ℕ → ℕ) → same_numbers (list_below n f) (list_below n g) ≡ all_below n (λ k. f k == g k)
same-below zero f g = refl
same-below (suc n) f g =
    same_numbers-push (list_below n f) (list_below n g) (f n) (g n) (list_below-length n f ∙ sym (list_below-length n g))
    ∙ ap (λ v. v && (f n == g n)) (same-below n f g)
