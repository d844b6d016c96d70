-- The items of which an operation is in flight, kept in a row.
use Rattle.std.specs.Prelude.{◌≡◌, ℕ, ◌<◌, ◌≤◌, ◌^◌, Bool, List, length}
use Rattle.std.specs.List.{filter}
use Rattle.rollout_rules.specs.Sums.{list_below}
use Rattle.rollout_rules.specs.Wan.{Problem}
use Rattle.rollout_rules.specs.Items.{item_count}
use Rattle.rollout_rules.specs.History.{History, flies}

-- the numbers below n that pass a test, in order
abbrev pub passing : (ℕ → Bool) → ℕ → List ℕ
passing test n = filter test (list_below n (λ k. k))

-- the items noted, and for how many there is room
pub record FlyingItems : Type 0 where
  pub room : ℕ
  pub items : List ℕ

-- the places in use are places of the row
pub record AreInRow (row : List ℕ) (count : ℕ) : Type 0 where
  pub within : count ≤ length row
  pub few : length row < 2 ^ 32

-- there is room for all items, and those noted are those of which an operation flies
pub record AreFlying (p : Problem) (h : History) (noted : FlyingItems) : Type 0 where
  pub room : noted.room ≡ item_count p
  pub items : noted.items ≡ passing (flies h) (item_count p)
