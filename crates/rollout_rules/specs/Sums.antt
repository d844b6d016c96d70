-- Sums, tests and extremes over the numbers below a bound. All sums of a rollout are made of these.
use Rattle.std.specs.Prelude.{ℕ, zero, suc, ◌+◌, min, Bool, true, false, ◌&&◌, List, [], ◌∷◌, ◌++◌, ◌==◌, if◌then◌else◌}

-- f 0 + .. + f (n - 1)
abbrev pub sum_below : ℕ → (ℕ → ℕ) → ℕ
sum_below zero f = 0
sum_below (suc n) f = sum_below n f + f n

-- whether the test holds of each number below n
abbrev pub all_below : ℕ → (ℕ → Bool) → Bool
all_below zero test = true
all_below (suc n) test = all_below n test && test n

-- how many numbers below n pass the test
abbrev pub count_below : ℕ → (ℕ → Bool) → ℕ
count_below n test = sum_below n (λ k. if test k then 1 else 0)

-- the least of top and f 0 .. f (n - 1)
abbrev pub least_below : ℕ → ℕ → (ℕ → ℕ) → ℕ
least_below zero top f = top
least_below (suc n) top f = min (least_below n top f) (f n)

-- the greatest number up to n that passes the test, or 0
abbrev pub last_to : ℕ → (ℕ → Bool) → ℕ
last_to zero test = 0
last_to (suc n) test = if test (n + 1) then n + 1 else last_to n test

-- f 0 .. f (n - 1) in a row
abbrev pub list_below : {A : Type 0} → ℕ → (ℕ → A) → List A
list_below zero f = []
list_below (suc n) f = list_below n f ++ f n ∷ []

-- whether two lists of numbers are the same
abbrev pub same_numbers : List ℕ → List ℕ → Bool
same_numbers [] [] = true
same_numbers [] (y ∷ ys) = false
same_numbers (x ∷ xs) [] = false
same_numbers (x ∷ xs) (y ∷ ys) = (x == y) && same_numbers xs ys
