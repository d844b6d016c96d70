-- What holds of each row of a list after a row is added at the end, and sums over rows that agree.
use Rattle.std.proofs.Common.{◌≡◌, ℕ, zero, suc, ◌+◌, ◌<◌, ◌⊎◌, inl, inr, ⊎_elim, List, [], ◌∷◌, ◌++◌, length, get_or, set, sym, ap, ap₂, subst, refl, ◌∙◌, get_or-set_same, get_or-set_other, arith}
use Rattle.std.proofs.lemmas.Bool.{cases_eq}
use Rattle.std.proofs.lemmas.List.{length_push, get_or_append_left, get_or_push}
use Rattle.rollout_rules.specs.Sums.{sum_below}

module _ {X : Type 0} (xs : List X) (y : X) where
  -- a place of the longer list is one of the shorter, or the last
  pub push_cases : (k : ℕ) → k < length (xs ++ y ∷ []) → (k < length xs) ⊎ (k ≡ length xs)
  push_cases k inside = ⊎_elim (λ e. inr e) (λ ne. inl (omega (arith, length_push xs y))) (cases_eq k (length xs))

  module _ (d : X) where
    pub push_below : (k : ℕ) → k < length xs → get_or (xs ++ y ∷ []) k d ≡ get_or xs k d
    push_below k inside = get_or_append_left xs (y ∷ []) d k inside

    pub push_last : (k : ℕ) → k ≡ length xs → get_or (xs ++ y ∷ []) k d ≡ y
    push_last k e = get_or_push xs y d k (sym e)

    -- what holds of each row and of the added one holds of each row then
    pub each_push : (P : X → Type 0) → ((k : ℕ) → k < length xs → P (get_or xs k d)) → P y → (k : ℕ) → k < length (xs ++ y ∷ []) → P (get_or (xs ++ y ∷ []) k d)
    each_push P each last k inside =
        ⊎_elim
        (λ lt. subst P (sym (push_below k lt)) (each k lt))
        (λ e. subst P (sym (push_last k e)) last)
        (push_cases k inside)

    -- where no two rows are alike and none is like the added one, no two rows are alike then
    pub once_push : (R : X → X → Type 0) → ((x z : X) → R x z → R z x) → ((j k : ℕ) → j < length xs → k < length xs → R (get_or xs j d) (get_or xs k d) → j ≡ k) → ((k : ℕ) → k < length xs → R (get_or xs k d) y → ⊥)
        → (j k : ℕ) → j < length (xs ++ y ∷ []) → k < length (xs ++ y ∷ []) → R (get_or (xs ++ y ∷ []) j d) (get_or (xs ++ y ∷ []) k d) → j ≡ k
    once_push R flip once fresh j k inside_j inside_k r =
        ⊎_elim
        (λ lt_j. ⊎_elim
        (λ lt_k. once j k lt_j lt_k (subst (R (get_or xs j d)) (push_below k lt_k) (subst (λ x. R x (get_or (xs ++ y ∷ []) k d)) (push_below j lt_j) r)))
        (λ e_k. absurd (fresh j lt_j (subst (R (get_or xs j d)) (push_last k e_k) (subst (λ x. R x (get_or (xs ++ y ∷ []) k d)) (push_below j lt_j) r))))
        (push_cases k inside_k))
        (λ e_j. ⊎_elim
        (λ lt_k. absurd (fresh k lt_k (flip y (get_or xs k d) (subst (R y) (push_below k lt_k) (subst (λ x. R x (get_or (xs ++ y ∷ []) k d)) (push_last j e_j) r)))))
        (λ e_k. e_j ∙ sym e_k)
        (push_cases k inside_k))
        (push_cases j inside_j)

-- what a row keeps as it is replaced, each row keeps
pub set_keeps : {X Y : Type 0} (key : X → Y) (xs : List X) (i : ℕ) (y d : X) → i < length xs → key y ≡ key (get_or xs i d) → (k : ℕ) → key (get_or (set xs i y) k d) ≡ key (get_or xs k d)
set_keeps key xs i y d inside kept k =
    ⊎_elim
    (λ e. ap (λ n. key (get_or (set xs i y) n d)) e ∙ ap key (get_or-set_same xs i y d inside) ∙ kept ∙ ap (λ n. key (get_or xs n d)) (sym e))
    (λ ne. ap key (get_or-set_other xs i k y d ne))
    (cases_eq k i)

-- sums of numbers that agree below the bound
pub sum_below_agrees : (f g : ℕ → ℕ) (n : ℕ) → ((k : ℕ) → k < n → f k ≡ g k) → sum_below n f ≡ sum_below n g
sum_below_agrees f g zero same = refl
sum_below_agrees f g (suc n) same = ap₂ (λ a b. a + b) (sum_below_agrees f g n (λ k below. same k (omega arith))) (same n (omega arith))
