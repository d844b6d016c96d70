-- Rows of items: how often each one is there, and how they rise.
use Rattle.std.specs.Prelude.{◌≡◌, ℕ, ◌+◌, ◌≤◌, Bool, List, [], ◌∷◌, length, ◌==◌, if◌then◌else◌, slice_index_or, false}
use Rattle.std.specs.List.{AllByRecursion}
use Rattle.rollout_rules.specs.Sums.{list_below}

abbrev pub bit : Bool → ℕ
bit b = if b then 1 else 0

-- how often an item is in a row
abbrev pub times : ℕ → List ℕ → ℕ
times n [] = 0
times n (m ∷ ms) = bit (m == n) + times n ms

-- Two rows have the same items, each as often.
abbrev pub HasSame : List ℕ → List ℕ → Type 0
HasSame ms ns = (n : ℕ) → times n ms ≡ times n ns

-- Each item is at most all those after it.
abbrev pub Rises : List ℕ → Type 0
Rises [] = Unit {0}
Rises (n ∷ ns) = AllByRecursion (λ m. n ≤ m) ns × Rises ns

-- the numbers below k
abbrev pub numbers : ℕ → List ℕ
numbers k = list_below k (λ n. n)

-- a row of items below a bound
pub record Row : Type 0 where
  pub items : ℕ
  pub row : List ℕ

-- Each item is in the row at most once, its mark says whether, and there is room for all.
pub record AreMarks (marks : List Bool) (row : List ℕ) (room : ℕ) : Type 0 where
  pub each : (n : ℕ) → times n row ≡ bit (slice_index_or marks n false)
  pub enough : length marks ≤ room
