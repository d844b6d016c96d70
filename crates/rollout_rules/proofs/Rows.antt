-- Rows that a function of the place fills.
use Rattle.std.proofs.Common.{[], add-one, ap₂, arith, get_or, inl, inr, length, length-append, refl, subst, suc, zero, ℕ, ◌++◌, ◌+◌, ◌<◌, ◌∙◌, ◌∷◌, ◌≡◌}
use Rattle.std.proofs.lemmas.Bool.{cases_lt}
use Rattle.std.proofs.lemmas.List.{get_or_append_left, get_or_push}
use Rattle.rollout_rules.specs.Sums.{list_below}

pub list_below-length : {A : Type 0} (n : ℕ) (f : ℕ → A) → length (list_below n f) ≡ n
list_below-length zero f = refl
list_below-length (suc n) f = omega (arith, length-append (list_below n f) (f n ∷ []), list_below-length n f)

pub list_below-same : (n : ℕ) (f g : ℕ → ℕ) → ((k : ℕ) → k < n → f k ≡ g k) → list_below n f ≡ list_below n g
list_below-same zero f g same = refl
list_below-same (suc n) f g same = ap₂ (λ xs x. xs ++ x ∷ []) (list_below-same n f g (λ k lt. same k (omega arith))) (same n (omega arith))

pub list_below-more : {A : Type 0} (n : ℕ) (f : ℕ → A) → list_below (n + 1) f ≡ list_below n f ++ f n ∷ []
list_below-more n f = rw add-one refl

pub list_below-at : {A : Type 0} (n : ℕ) (f : ℕ → A) (k : ℕ) (d : A) → k < n → get_or (list_below n f) k d ≡ f k
list_below-at zero f k d lt = absurd (omega arith)
list_below-at (suc n) f k d lt = elim (cases_lt k n) as (λ c. get_or (list_below (suc n) f) k d ≡ f k) [
  | inl below ↦ get_or_append_left (list_below n f) (f n ∷ []) d k (omega (arith, below, list_below-length n f)) ∙ list_below-at n f k d below
  | inr above ↦ let at : n ≡ k = omega arith in subst (λ m. get_or (list_below n f ++ f n ∷ []) m d ≡ f m) at (get_or_push (list_below n f) (f n) d n (list_below-length n f))
]
