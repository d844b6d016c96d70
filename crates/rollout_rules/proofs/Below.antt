-- The laws of sums, tests and extremes over the numbers below a bound.
use Rattle.std.proofs.Common.{Bool, ap, arith, false, inl, inr, refl, subst, suc, sym, true, zero, ℕ, ◌&&◌, ◌*◌, ◌+◌, ◌<◌, ◌∙◌, ◌≡◌, ◌≤◌, ◌⊎◌}
use Rattle.std.proofs.lemmas.Bool.{and_from, and_left, and_parts, and_right, cases_Bool, cases_eq, cases_lt, cases_order}
use Rattle.rollout_rules.specs.Sums.{all_below, count_below, last_to, least_below, sum_below}
use Rattle.rollout_rules.specs.Release.{most_below}

-- ---- sums
pub sum_below-same : (n : ℕ) (f g : ℕ → ℕ) → ((k : ℕ) → k < n → f k ≡ g k) → sum_below n f ≡ sum_below n g
sum_below-same zero f g e = refl
sum_below-same (suc n) f g e = omega (arith, sum_below-same n f g (λ k lt. e k (omega arith)), e n (omega arith))

pub sum_below-mono : (n : ℕ) (f g : ℕ → ℕ) → ((k : ℕ) → k < n → f k ≤ g k) → sum_below n f ≤ sum_below n g
sum_below-mono zero f g e = omega arith
sum_below-mono (suc n) f g e = omega (arith, sum_below-mono n f g (λ k lt. e k (omega arith)), e n (omega arith))

pub sum_below-zero : (n : ℕ) (f : ℕ → ℕ) → ((k : ℕ) → k < n → f k ≡ 0) → sum_below n f ≡ 0
sum_below-zero zero f e = refl
sum_below-zero (suc n) f e = omega (arith, sum_below-zero n f (λ k lt. e k (omega arith)), e n (omega arith))

pub sum_below-plus : (n : ℕ) (f g : ℕ → ℕ) → sum_below n (λ k. f k + g k) ≡ sum_below n f + sum_below n g
sum_below-plus zero f g = refl
sum_below-plus (suc n) f g = omega (arith, sum_below-plus n f g)

-- the first n, and then the next m
pub sum_below-split : (n m : ℕ) (f : ℕ → ℕ) → sum_below (n + m) f ≡ sum_below n f + sum_below m (λ k. f (n + k))
sum_below-split n zero f = let e : n + 0 ≡ n = omega arith in rw e (omega arith)
sum_below-split n (suc m) f = let e : n + suc m ≡ suc (n + m) = omega arith in rw e (omega (arith, sum_below-split n m f))

-- the first one apart
pub sum_below-front : (n : ℕ) (f : ℕ → ℕ) → sum_below (suc n) f ≡ f 0 + sum_below n (λ k. f (suc k))
sum_below-front zero f = omega arith
sum_below-front (suc n) f = omega (arith, sum_below-front n f)

-- a sum over rows that stand in blocks, one behind the other
pub sum_below-blocks : (n : ℕ) (size f : ℕ → ℕ) → sum_below (sum_below n size) f ≡ sum_below n (λ b. sum_below (size b) (λ k. f (sum_below b size + k)))
sum_below-blocks zero size f = refl
sum_below-blocks (suc n) size f = omega (arith, sum_below-split (sum_below n size) (size n) f, sum_below-blocks n size f)

pub sum_below-swap : (n m : ℕ) (f : ℕ → ℕ → ℕ) → sum_below n (λ a. sum_below m (f a)) ≡ sum_below m (λ b. sum_below n (λ a. f a b))
sum_below-swap zero m f = sym (sum_below-zero m (λ b. 0) (λ k lt. refl))
sum_below-swap (suc n) m f = ap (λ x. x + sum_below m (f n)) (sum_below-swap n m f) ∙ sym (sum_below-plus m (λ b. sum_below n (λ a. f a b)) (f n))

-- a sum up to a is at most one up to b
pub sum_below-up : (a b : ℕ) (f : ℕ → ℕ) → a ≤ b → sum_below a f ≤ sum_below b f
sum_below-up a zero f le = let e : a ≡ 0 = omega arith in rw e (omega arith)
sum_below-up a (suc b) f le = elim (cases_order a (suc b)) as (λ c. sum_below a f ≤ sum_below (suc b) f) [
  | inl e ↦ rw e (omega arith)
  | inr (inl lt) ↦ omega (arith, sum_below-up a b f (omega arith))
  | inr (inr gt) ↦ absurd (omega arith)
]

-- two functions that differ at k alone: each sum has the other's k-th in place of its own
pub sum_below-but : (n k : ℕ) (f g : ℕ → ℕ) → k < n → ((j : ℕ) → j < n → (j ≡ k → ⊥) → f j ≡ g j) → sum_below n f + g k ≡ sum_below n g + f k
sum_below-but zero k f g lt same = absurd (omega arith)
sum_below-but (suc n) k f g lt same = elim (cases_lt k n) as (λ c. sum_below (suc n) f + g k ≡ sum_below (suc n) g + f k) [
  | inl below ↦ omega (arith, sum_below-but n k f g below (λ j low other. same j (omega arith) other), same n (omega arith) (λ e. omega arith))
  | inr at ↦
      let e : k ≡ n = omega arith in
      rw e (omega (arith, sum_below-same n f g (λ j low. same j (omega arith) (λ q. omega arith))))
]

-- ---- tests
pub all_below-at : (n : ℕ) (test : ℕ → Bool) → all_below n test ≡ true → (k : ℕ) → k < n → test k ≡ true
all_below-at zero test e k lt = absurd (omega arith)
all_below-at (suc n) test e k lt = elim (cases_lt k n) as (λ c. test k ≡ true) [
  | inl below ↦ all_below-at n test (and_parts (all_below n test) (test n) e).0 k below
  | inr above ↦ let at : k ≡ n = omega arith in rw at (and_parts (all_below n test) (test n) e).1
]

pub all_below-from : (n : ℕ) (test : ℕ → Bool) → ((k : ℕ) → k < n → test k ≡ true) → all_below n test ≡ true
all_below-from zero test h = refl
all_below-from (suc n) test h = and_from (all_below n test) (test n) (all_below-from n test (λ k lt. h k (omega arith))) (h n (omega arith))

-- where not all pass, one does not
pub all_below-fails : (n : ℕ) (test : ℕ → Bool) → all_below n test ≡ false → (k : ℕ) × (k < n) × (test k ≡ false)
all_below-fails zero test e = absurd (true_is_not_false e)
  where
    true_is_not_false : true ≡ false → ⊥
    true_is_not_false q = cc
all_below-fails (suc n) test e = elim (cases_Bool (test n)) as (λ c. (k : ℕ) × (k < suc n) × (test k ≡ false)) [
  | inl passes ↦ let there = all_below-fails n test (grind arith) in (there.0, omega arith, there.2)
  | inr fails ↦ (n, omega arith, fails)
]

-- ---- the least
pub least_below-top : (n top : ℕ) (f : ℕ → ℕ) → least_below n top f ≤ top
least_below-top zero top f = omega arith
least_below-top (suc n) top f = omega (arith, least_below-top n top f)

pub least_below-at : (n top : ℕ) (f : ℕ → ℕ) (k : ℕ) → k < n → least_below n top f ≤ f k
least_below-at zero top f k lt = absurd (omega arith)
least_below-at (suc n) top f k lt = elim (cases_lt k n) as (λ c. least_below (suc n) top f ≤ f k) [
  | inl below ↦ omega (arith, least_below-at n top f k below)
  | inr above ↦ let at : k ≡ n = omega arith in rw at (omega arith)
]

pub least_below-from : (n top : ℕ) (f : ℕ → ℕ) (b : ℕ) → b ≤ top → ((k : ℕ) → k < n → b ≤ f k) → b ≤ least_below n top f
least_below-from zero top f b le h = le
least_below-from (suc n) top f b le h = omega (arith, least_below-from n top f b le (λ k lt. h k (omega arith)), h n (omega arith))

-- the least is the top or one of the numbers
pub least_below-is : (n top : ℕ) (f : ℕ → ℕ) → (least_below n top f ≡ top) ⊎ ((k : ℕ) × (k < n) × (least_below n top f ≡ f k))
least_below-is zero top f = inl refl
least_below-is (suc n) top f = elim (cases_lt (f n) (least_below n top f)) as (λ c. (least_below (suc n) top f ≡ top) ⊎ ((k : ℕ) × (k < suc n) × (least_below (suc n) top f ≡ f k))) [
  | inl less ↦ inr (n, omega arith, omega arith)
  | inr more ↦ elim (least_below-is n top f) as (λ c. (least_below (suc n) top f ≡ top) ⊎ ((k : ℕ) × (k < suc n) × (least_below (suc n) top f ≡ f k))) [
    | inl top_is ↦ inl (omega arith)
    | inr there ↦ inr (there.0, omega (arith, there.1), omega (arith, there.2))
  ]
]

-- ---- the last that passes
pub last_to-most : (n : ℕ) (test : ℕ → Bool) → last_to n test ≤ n
last_to-most zero test = omega arith
last_to-most (suc n) test = grind (arith, last_to-most n test)

pub last_to-passes : (n : ℕ) (test : ℕ → Bool) → test 0 ≡ true → test (last_to n test) ≡ true
last_to-passes zero test first = first
last_to-passes (suc n) test first = grind (arith, last_to-passes n test first)

pub last_to-is_last : (n : ℕ) (test : ℕ → Bool) (s : ℕ) → s ≤ n → test s ≡ true → s ≤ last_to n test
last_to-is_last zero test s le passes = le
last_to-is_last (suc n) test s le passes = elim (cases_Bool (test (n + 1))) as (λ c. s ≤ last_to (suc n) test) [
  | inl top ↦ rw top (omega arith)
  | inr fails ↦ elim (cases_lt s (suc n)) as (λ c. s ≤ last_to (suc n) test) [
    | inl below ↦ rw fails (last_to-is_last n test s (omega arith) passes)
    | inr above ↦ let at : s ≡ n + 1 = omega arith in absurd (clash (test s) (rw at fails) passes)
  ]
]
  where
    clash : (b : Bool) → b ≡ false → b ≡ true → ⊥
    clash b p q = cc

pub sum_below-most : (n m : ℕ) (f : ℕ → ℕ) → ((k : ℕ) → k < n → f k ≤ m) → sum_below n f ≤ n * m
sum_below-most zero m f le = omega arith
sum_below-most (suc n) m f le = omega (arith, sum_below-most n m f (λ k lt. le k (omega arith)), le n (omega arith), suc_times)
  where
    suc_times : suc n * m ≡ n * m + m
    suc_times = grind arith

pub all_below_stops : (test : ℕ → Bool) (n i : ℕ) → i < n → test i ≡ false → all_below n test ≡ false
all_below_stops test zero i h e = absurd (omega arith)
all_below_stops test (suc n) i h e = elim (cases_eq i n) as (λ _. (all_below n test && test n) ≡ false) [
  | inl same ↦ and_right (all_below n test) (test n) (subst (λ x. test x ≡ false) same e)
  | inr other ↦ and_left (all_below n test) (test n) (all_below_stops test n i (omega arith) e)
]

pub count_below-most : (n : ℕ) (test : ℕ → Bool) → count_below n test ≤ n
count_below-most zero test = omega arith
count_below-most (suc n) test = grind (arith, count_below-most n test)

pub sum_below-at : (n : ℕ) (f : ℕ → ℕ) (k : ℕ) → k < n → f k ≤ sum_below n f
sum_below-at zero f k lt = absurd (omega arith)
sum_below-at (suc n) f k lt = elim (cases_eq k n) as (λ _. f k ≤ sum_below (suc n) f) [
  | inl same ↦ subst (λ m. f m ≤ sum_below n f + f n) (sym same) (omega arith)
  | inr other ↦ omega (arith, sum_below-at n f k (omega (arith, lt, other)))
]

pub most_below-within : (n : ℕ) (f : ℕ → ℕ) (b : ℕ) → ((k : ℕ) → k < n → f k ≤ b) → most_below n f ≤ b
most_below-within zero f b all = omega arith
most_below-within (suc n) f b all = omega (arith, most_below-within n f b (λ k lt. all k (omega arith)), all n (omega arith))
