-- The start at which nothing is settled.
use Rattle.std.proofs.Common.{◌≡◌, inl, inr, ℕ, zero, suc, ◌<◌, List, [], ◌∷◌, ◌++◌, ◌+◌, length, get_or, refl, sym, ap, ◌∙◌, arith}
use Rattle.std.proofs.lemmas.Bool.{cases_lt}
use Rattle.rollout_rules.specs.Sums.{list_below}

zero-first : (n : ℕ) → list_below {A = ℕ} (suc n) (λ k. 0) ≡ 0 ∷ list_below {A = ℕ} n (λ k. 0)
zero-first zero = refl
zero-first (suc n) = ap (λ (xs : List ℕ). xs ++ 0 ∷ []) (zero-first n)

pub all-zero : (xs : List ℕ) → ((k : ℕ) → k < length xs → get_or xs k 0 ≡ 0) → xs ≡ list_below {A = ℕ} (length xs) (λ k. 0)
all-zero [] none = refl
all-zero (x ∷ xs) none =
    ap (λ (y : ℕ). y ∷ xs) (none 0 (omega arith))
    ∙ ap (λ (ys : List ℕ). 0 ∷ ys) (all-zero xs (λ k lt. none (suc k) (omega (arith, lt))))
    ∙ sym (zero-first (length xs))

pub zero-next : (xs : List ℕ) (n : ℕ) → ((k : ℕ) → k < n → get_or xs k 0 ≡ 0) → get_or xs n 0 ≡ 0 → (k : ℕ) → k < n + 1 → get_or xs k 0 ≡ 0
zero-next xs n below here k lt = elim (cases_lt k n) as (λ c. get_or xs k 0 ≡ 0) [
  | inl less ↦ below k less
  | inr most ↦ (let same : k ≡ n = omega (arith, lt, most) in ap (λ (j : ℕ). get_or xs j 0) same ∙ here)
]
