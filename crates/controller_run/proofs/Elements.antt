-- What is found among the elements of a list.
use Rattle.std.proofs.Common.{◌≡◌, ◌⊎◌, ℕ, zero, suc, ◌<◌, Bool, true, false, ◌||◌, List, [], ◌∷◌, ◌++◌, map, refl, ap, ◌∙◌, subst, ⊎_elim, inl, inr, arith}
use Rattle.std.proofs.lemmas.Bool.{both_ways, cases_eq, cond_both, false≢true, or_left, or_right}
use Rattle.std.proofs.lemmas.List.Elements.{Contains-append_left, Contains-push}
use Rattle.std.specs.List.{Contains, filter, list_any}
use Rattle.rollout_rules.specs.Sums.{list_below}

module _ {A : Type 0} where
  pub none-inside : (x : A) → Contains [] x → ⊥
  none-inside x at = absurd (omega (arith, at.1))

  pub inside-later : (x y : A) (xs : List A) → Contains xs y → Contains (x ∷ xs) y
  inside-later x y xs at = (suc at.0, omega (arith, at.1), at.2)

  -- the first is the one, or one of the others is
  pub inside-cons : (x y : A) (xs : List A) → Contains (x ∷ xs) y → (x ≡ y) ⊎ Contains xs y
  inside-cons x y xs (zero, inside, is) = inl is
  inside-cons x y xs (suc k, inside, is) = inr (k, omega (arith, inside), is)

  -- where a test passes for some there is one
  either : (test : A → Bool) (x : A) (xs : List A) (b : Bool) → test x ≡ b → (b || list_any test xs) ≡ true → (list_any test xs ≡ true → (y : A) × Contains xs y × (test y ≡ true)) → (y : A) × Contains (x ∷ xs) y × (test y ≡ true)
  either test x xs true is some later = (x, (0, omega arith, refl), is)
  either test x xs false is some later = let found = later some in (found.0, inside-later x found.0 xs found.1, found.2)

  pub any-found : (test : A → Bool) (xs : List A) → list_any test xs ≡ true → (y : A) × Contains xs y × (test y ≡ true)
  any-found test [] e = absurd (false≢true e)
  any-found test (x ∷ xs) e = either test x xs (test x) refl e (any-found test xs)

-- what is in a list of images is the image of one
pub map-found : {A B : Type 0} (f : A → B) (xs : List A) (y : B) → Contains (map f xs) y → (x : A) × Contains xs x × (f x ≡ y)
map-found f [] y at = absurd (none-inside y at)
map-found f (x ∷ xs) y at = ⊎_elim (λ (is : f x ≡ y). (x, (0, omega arith, refl), is)) (λ (later : Contains (map f xs) y). let found = map-found f xs y later in (found.0, inside-later x found.0 xs found.1, found.2)) (inside-cons (f x) y (map f xs) at)

-- ---- what is an element
-- where one passes a test, it is among those that do, and some do
pub filter-has : {A : Type 0} (test : A → Bool) (xs : List A) (x : A) → test x ≡ true → Contains xs x → Contains (filter test xs) x
filter-has test [] x passes at = absurd (none-inside x at)
filter-has test (y ∷ ys) x passes at =
    ⊎_elim
    (λ (same : y ≡ x). cond_both (test y) (y ∷ filter test ys) (filter test ys) (λ zs. Contains zs x) (λ _. (0, omega arith, same)) (λ fails. absurd (both_ways (test y) fails (ap test same ∙ passes))))
    (λ (later : Contains ys x).
    let rest = filter-has test ys x passes later in
    cond_both (test y) (y ∷ filter test ys) (filter test ys) (λ zs. Contains zs x) (λ _. inside-later y x (filter test ys) rest) (λ _. rest))
    (inside-cons y x ys at)

pub any-has : {A : Type 0} (test : A → Bool) (xs : List A) (x : A) → Contains xs x → test x ≡ true → list_any test xs ≡ true
any-has test [] x at passes = absurd (none-inside x at)
any-has test (y ∷ ys) x at passes =
    ⊎_elim (λ (same : y ≡ x). or_left (test y) (list_any test ys) (ap test same ∙ passes)) (λ (later : Contains ys x). or_right (test y) (list_any test ys) (any-has test ys x later passes)) (inside-cons y x ys at)

-- its image, and a number below a bound
pub map-has : {A B : Type 0} (f : A → B) (xs : List A) (x : A) → Contains xs x → Contains (map f xs) (f x)
map-has f [] x at = absurd (none-inside x at)
map-has f (y ∷ ys) x at =
    ⊎_elim (λ (same : y ≡ x). (0, omega arith, ap f same)) (λ (later : Contains ys x). inside-later (f y) (f x) (map f ys) (map-has f ys x later)) (inside-cons y x ys at)

pub below-has : (k n : ℕ) → n < k → Contains (list_below k (λ m. m)) n
below-has zero n low = absurd (omega (arith, low))
below-has (suc k) n low =
    ⊎_elim (λ (same : k ≡ n). subst (Contains (list_below k (λ m. m) ++ k ∷ [])) same (Contains-push (list_below k (λ m. m)) k))
    (λ (other : k ≡ n → ⊥). Contains-append_left (list_below k (λ m. m)) (k ∷ []) n (below-has k n (omega (arith, low, other)))) (cases_eq k n)
