-- Laws of rows: two that rise and have the same items are one, and how many items there can be.
use Rattle.std.proofs.Common.{◌≡◌, ℕ, zero, suc, ◌+◌, ◌<◌, ◌≤◌, Bool, true, false, ◌&&◌, ◌==◌, nat_lt, cond, List, [], ◌∷◌, ◌++◌, length, filter, IsPermutation, sum_by, refl, inl, inr, sym, ap, ap₂, ◌∙◌, subst, arith, eq-eqb, eqb-true, lt-ltb}
use Rattle.std.specs.List.{AllByRecursion}
use Rattle.std.specs.List.Sorted.{IsNonDecreasingBy}
use Rattle.std.proofs.lemmas.Bool.{cases_Bool, cases_lt, cases_eq, ne_eqb, le-ltb, cond_both}
use Rattle.std.proofs.lemmas.List.Elements.{filter-append, recursion_from_All}
use Rattle.std.proofs.lemmas.List.Sums.{sum_by-cons}
use Rattle.std.proofs.lemmas.List.Sorted.{sum_by-IsPermutation}
use Rattle.rollout_rules.specs.Sums.{sum_below}
use Rattle.rollout_rules.proofs.Below.{sum_below-plus, sum_below-zero, sum_below-mono}
use Rattle.update_scheduler.specs.Rows.{bit, times, HasSame, Rises, numbers}

pub times-append : (n : ℕ) (xs ys : List ℕ) → times n (xs ++ ys) ≡ times n xs + times n ys
times-append n [] ys = omega arith
times-append n (x ∷ xs) ys = omega (arith, times-append n xs ys)

-- ---- permutations
times-sum : (n : ℕ) (xs : List ℕ) → sum_by (λ m. bit (m == n)) xs ≡ times n xs
times-sum n [] = refl
times-sum n (x ∷ xs) = sum_by-cons (λ m. bit (m == n)) x xs ∙ ap (λ k. bit (x == n) + k) (times-sum n xs)

pub permuted-same : (xs ys : List ℕ) → IsPermutation xs ys → HasSame ys xs
permuted-same xs ys moved n = sym (times-sum n ys) ∙ sum_by-IsPermutation (λ m. bit (m == n)) xs ys moved ∙ times-sum n xs

-- ---- rows that rise
pub sorted-rises : (xs : List ℕ) → IsNonDecreasingBy (λ x. x) xs → Rises xs
sorted-rises [] up = tt
sorted-rises (x ∷ xs) up =
    let rest : IsNonDecreasingBy (λ y. y) xs = λ i j d le lt. up (suc i) (suc j) d (omega arith) (omega arith) in
    (recursion_from_All (λ y. x ≤ y) xs (λ k d lt. up 0 (suc k) d (omega arith) (omega arith)), sorted-rises xs rest)

-- what holds of all holds of each that is among them
found : (P : ℕ → Type 0) (n : ℕ) (xs : List ℕ) → AllByRecursion P xs → 0 < times n xs → P n
found P n [] all some = absurd (omega (arith, some))
found P n (x ∷ xs) all some = elim (cases_Bool (x == n)) as (λ c. P n) [
  | inl same ↦ subst P (eqb-true x n same) all.0
  | inr other ↦ found P n xs all.1 (let none : bit (x == n) ≡ 0 = ap bit other in omega (arith, some, none))
]

bit-itself : (n : ℕ) → bit (n == n) ≡ 1
bit-itself n = ap bit (eq-eqb n n refl)

pub same-row : (xs ys : List ℕ) → Rises xs → Rises ys → HasSame xs ys → xs ≡ ys
same-row [] [] up down same = refl
same-row [] (y ∷ ys) up down same = absurd (omega (arith, same y, bit-itself y))
same-row (x ∷ xs) [] up down same = absurd (omega (arith, same x, bit-itself x))
same-row (x ∷ xs) (y ∷ ys) up down same =
    let forth : y ≤ x = found (λ m. y ≤ m) x (y ∷ ys) (omega arith, down.0) (omega (arith, same x, bit-itself x)) in
    let back : x ≤ y = found (λ m. x ≤ m) y (x ∷ xs) (omega arith, up.0) (omega (arith, same y, bit-itself y)) in
    let heads : x ≡ y = omega (arith, forth, back) in
    let tails = same-row xs ys up.1 down.1 (λ n. omega (arith, same n, ap (λ m. bit (m == n)) heads)) in
    ap₂ (λ z zs. z ∷ zs) heads tails

all-push : (P : ℕ → Type 0) (xs : List ℕ) (y : ℕ) → AllByRecursion P xs → P y → AllByRecursion P (xs ++ y ∷ [])
all-push P [] y all here = (here, tt)
all-push P (x ∷ xs) y all here = (all.0, all-push P xs y all.1 here)

pub rises-push : (xs : List ℕ) (y : ℕ) → Rises xs → AllByRecursion (λ x. x ≤ y) xs → Rises (xs ++ y ∷ [])
rises-push [] y up below = (tt, tt)
rises-push (x ∷ xs) y up below = (all-push (λ m. x ≤ m) xs y up.0 below.0, rises-push xs y up.1 below.1)

-- ---- the numbers below a bound that pass a test
all-filter : (P : ℕ → Type 0) (test : ℕ → Bool) (xs : List ℕ) → AllByRecursion P xs → AllByRecursion P (filter test xs)
all-filter P test [] all = tt
all-filter P test (x ∷ xs) all = cond_both (test x) (x ∷ filter test xs) (filter test xs) (AllByRecursion P) (λ _. (all.0, all-filter P test xs all.1)) (λ _. all-filter P test xs all.1)

rises-filter : (test : ℕ → Bool) (xs : List ℕ) → Rises xs → Rises (filter test xs)
rises-filter test [] up = tt
rises-filter test (x ∷ xs) up = cond_both (test x) (x ∷ filter test xs) (filter test xs) Rises (λ _. (all-filter (λ m. x ≤ m) test xs up.0, rises-filter test xs up.1)) (λ _. rises-filter test xs up.1)

all-most : (k m : ℕ) (xs : List ℕ) → k ≤ m → AllByRecursion (λ x. x ≤ k) xs → AllByRecursion (λ x. x ≤ m) xs
all-most k m [] le all = tt
all-most k m (x ∷ xs) le all = (omega (arith, le, all.0), all-most k m xs le all.1)

numbers-most : (k : ℕ) → AllByRecursion (λ x. x ≤ k) (numbers k)
numbers-most zero = tt
numbers-most (suc k) = all-push (λ x. x ≤ suc k) (numbers k) k (all-most k (suc k) (numbers k) (omega arith) (numbers-most k)) (omega arith)

pub numbers-rise : (k : ℕ) → Rises (numbers k)
numbers-rise zero = tt
numbers-rise (suc k) = rises-push (numbers k) k (numbers-rise k) (numbers-most k)

pub filtered-rise : (test : ℕ → Bool) (k : ℕ) → Rises (filter test (numbers k))
filtered-rise test k = rises-filter test (numbers k) (numbers-rise k)

times-one : (test : ℕ → Bool) (m n : ℕ) → times n (filter test (m ∷ [])) ≡ bit ((m == n) && test m)
times-one test m n = one (test m)
  where
    one : (b : Bool) → times n (cond b (m ∷ []) []) ≡ bit ((m == n) && b)
    one true = both (m == n)
      where
        both : (c : Bool) → bit c + 0 ≡ bit (c && true)
        both true = refl
        both false = refl
    one false = none (m == n)
      where
        none : (c : Bool) → 0 ≡ bit (c && false)
        none true = refl
        none false = refl

pub times-filtered : (test : ℕ → Bool) (k n : ℕ) → times n (filter test (numbers k)) ≡ bit (nat_lt n k && test n)
times-filtered test zero n = ap (λ b. bit (b && test n)) (sym (le-ltb n 0 (omega arith)))
times-filtered test (suc k) n =
    ap (times n) (filter-append test (numbers k) (k ∷ []))
    ∙ times-append n (filter test (numbers k)) (filter test (k ∷ []))
    ∙ ap₂ (λ a b. a + b) (times-filtered test k n) (times-one test k n)
    ∙ (elim (cases_eq k n) as (λ c. bit (nat_lt n k && test n) + bit ((k == n) && test k) ≡ bit (nat_lt n (suc k) && test n)) [
      | inl is ↦
          let same : (k == n) ≡ true = eq-eqb k n is in
          let no_more : nat_lt n k ≡ false = le-ltb n k (omega arith) in
          let low : nat_lt n (suc k) ≡ true = lt-ltb n (suc k) (omega arith) in
          rw (same, no_more, low) (omega (arith, ap (λ m. bit (test m)) is))
      | inr apart ↦
          let other : (k == n) ≡ false = ne_eqb k n apart in
          rw other (elim (cases_lt n k) as (λ c. bit (nat_lt n k && test n) + 0 ≡ bit (nat_lt n (suc k) && test n)) [
            | inl below ↦
                let low : nat_lt n k ≡ true = lt-ltb n k below in
                let lower : nat_lt n (suc k) ≡ true = lt-ltb n (suc k) (omega arith) in
                rw (low, lower) (omega arith)
            | inr above ↦
                let high : nat_lt n k ≡ false = le-ltb n k above in
                let higher : nat_lt n (suc k) ≡ false = le-ltb n (suc k) (omega (arith, above, strict n k above apart)) in
                rw (high, higher) refl
          ])
    ])
  where
    strict : (n k : ℕ) → k ≤ n → (k ≡ n → ⊥) → suc k ≤ n
    strict n k le apart = elim (cases_lt k n) as (λ c. suc k ≤ n) [ inl lt ↦ omega arith | inr ge ↦ absurd (apart (omega (arith, le, ge))) ]

-- ---- how many there are
sum-bit : (k m : ℕ) → m < k → sum_below k (λ n. bit (m == n)) ≡ 1
sum-bit zero m lt = absurd (omega (arith, lt))
sum-bit (suc k) m lt = elim (cases_eq m k) as (λ c. sum_below k (λ n. bit (m == n)) + bit (m == k) ≡ 1) [
  | inl is ↦
      let here : bit (m == k) ≡ 1 = ap bit (eq-eqb m k is) in
      let none : sum_below k (λ n. bit (m == n)) ≡ 0 = sum_below-zero k (λ n. bit (m == n)) (λ n low. ap bit (ne_eqb m n (λ e. omega arith))) in
      omega (arith, here, none)
  | inr apart ↦
      let there : bit (m == k) ≡ 0 = ap bit (ne_eqb m k apart) in
      omega (arith, there, sum-bit k m (less m k lt apart))
]
  where
    less : (m k : ℕ) → m < suc k → (m ≡ k → ⊥) → m < k
    less m k lt apart = elim (cases_lt m k) as (λ c. m < k) [ inl low ↦ low | inr ge ↦ absurd (apart (omega (arith, lt, ge))) ]

-- a row of items below a bound is as long as each one's times together
pub length-times : (k : ℕ) (xs : List ℕ) → AllByRecursion (λ x. x < k) xs → length xs ≡ sum_below k (λ n. times n xs)
length-times k [] all = sym (sum_below-zero k (λ n. 0) (λ n lt. refl))
length-times k (x ∷ xs) all = omega (arith, length-times k xs all.1, sum-bit k x all.0, sum_below-plus k (λ n. bit (x == n)) (λ n. times n xs))

-- items that are in the row nowhere past a bound are below it
pub inside : (k : ℕ) (xs : List ℕ) → ((n : ℕ) → k ≤ n → times n xs ≡ 0) → AllByRecursion (λ x. x < k) xs
inside k [] none = tt
inside k (x ∷ xs) none = (
  elim (cases_lt x k) as (λ c. x < k) [ inl low ↦ low | inr high ↦ absurd (omega (arith, none x high, bit-itself x)) ],
  inside k xs (λ n le. omega (arith, none n le)),
)

sum-ones : (k : ℕ) → sum_below k (λ n. 1) ≡ k
sum-ones zero = refl
sum-ones (suc k) = omega (arith, sum-ones k)

-- each at most once: no more than there are, and fewer where one is missing
pub few : (k : ℕ) (xs : List ℕ) → AllByRecursion (λ x. x < k) xs → ((n : ℕ) → times n xs ≤ 1) → length xs ≤ k
few k xs all once = omega (arith, length-times k xs all, sum_below-mono k (λ n. times n xs) (λ n. 1) (λ n lt. once n), sum-ones k)

pub fewer : (k m : ℕ) (xs : List ℕ) → AllByRecursion (λ x. x < k) xs → ((n : ℕ) → times n xs ≤ 1) → m < k → times m xs ≡ 0 → length xs < k
fewer k m xs all once lt none =
    let more = few k (m ∷ xs) (lt, all) (λ n. elim (cases_eq m n) as (λ c. bit (m == n) + times n xs ≤ 1) [
      | inl is ↦ let gone : times n xs ≡ 0 = ap (λ j. times j xs) (sym is) ∙ none in omega (arith, gone, small (m == n))
      | inr apart ↦ let other : bit (m == n) ≡ 0 = ap bit (ne_eqb m n apart) in omega (arith, other, once n)
    ]) in
    omega (arith, more)
  where
    small : (b : Bool) → bit b ≤ 1
    small true = omega arith
    small false = omega arith
