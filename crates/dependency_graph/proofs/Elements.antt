-- Elements that code reads, and rows that grow at the end.
use Rattle.std.proofs.Common.{◌≡◌, refl, ℕ, suc, ◌+◌, ◌<◌, List, [], ◌∷◌, ◌++◌, length, length-append, get_or, subst, ap, ap₂, ◌∙◌, sym, inl, inr, arith}
use Rattle.std.proofs.lemmas.Bool.{cases_lt}
use Rattle.std.proofs.lemmas.List.{get_or_read, get_or_append_left, get_or_push}
use Rattle.rollout_rules.specs.Sums.{sum_below}
use Rattle.rollout_rules.proofs.Below.{sum_below-same}

-- an element read from a slice is the element of the list that the slice is
pub read_from : {X : Type 0} (xs ys : List X) (i : ℕ) (x d : X) → xs ≡ ys → i < length ys → x ≡ get_or xs i x → x ≡ get_or ys i d
read_from xs ys i x d same inside is = get_or_read ys i x inside (subst (λ zs. x ≡ get_or zs i x) same is) d

pub length-push : {X : Type 0} (xs : List X) (x : X) → length (xs ++ x ∷ []) ≡ length xs + 1
length-push xs x = length-append xs (x ∷ [])

-- a row that agrees with a function still does with one element more
pub each-push : {X : Type 0} (P : ℕ → X → Type 0) (xs : List X) (x d : X) (n : ℕ) → length xs ≡ n → ((k : ℕ) → k < n → P k (get_or xs k d)) → P n x → (k : ℕ) → k < n + 1 → P k (get_or (xs ++ x ∷ []) k d)
each-push P xs x d n count each here k lt = elim (cases_lt k n) as (λ c. P k (get_or (xs ++ x ∷ []) k d)) [
  | inl below ↦ subst (P k) (sym (get_or_append_left xs (x ∷ []) d k (omega arith))) (each k below)
  | inr above ↦
      let at : n ≡ k = omega arith in
      subst (λ m. P m (get_or (xs ++ x ∷ []) m d)) at (subst (P n) (sym (get_or_push xs x d n count)) here)
]

-- a sum over a row with one element more
pub sum-push : {X : Type 0} (f : X → ℕ) (xs : List X) (x d : X) → sum_below (length (xs ++ x ∷ [])) (λ j. f (get_or (xs ++ x ∷ []) j d)) ≡ sum_below (length xs) (λ j. f (get_or xs j d)) + f x
sum-push f xs x d =
    let more : length (xs ++ x ∷ []) ≡ suc (length xs) = omega (arith, length-push xs x) in
    ap (λ n. sum_below n (λ j. f (get_or (xs ++ x ∷ []) j d))) more
    ∙ ap₂ (λ a b. a + b)
    (sum_below-same (length xs) (λ j. f (get_or (xs ++ x ∷ []) j d)) (λ j. f (get_or xs j d)) (λ j lt. ap f (get_or_append_left xs (x ∷ []) d j lt)))
    (ap f (get_or_push xs x d (length xs) refl))

-- one number more
pub sum_below-more : (n : ℕ) (f : ℕ → ℕ) → sum_below (n + 1) f ≡ sum_below n f + f n
sum_below-more n f = let e : suc n ≡ n + 1 = omega arith in subst (λ m. sum_below m f ≡ sum_below n f + f n) e refl
