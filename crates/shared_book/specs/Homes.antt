-- The homes of all items, by number.
use Rattle.std.specs.Prelude.{◌≡◌, ℕ, List, Option, Some, None, nat_lt, slice_get, if◌then◌else◌}
use Rattle.rollout_rules.specs.Sums.{list_below}
use Rattle.rollout_rules.specs.Wan.{Problem}
use Rattle.rollout_rules.specs.Items.{home_of, item_at, item_count}

-- the home of an item by its number
abbrev pub home_at : Problem → ℕ → Option ℕ
home_at p n = home_of p (item_at p n)

abbrev pub homes_of : Problem → List (Option ℕ)
homes_of p = list_below (item_count p) (home_at p)

-- none of an item that doesn't exist
abbrev pub home_if_any : Problem → ℕ → Option ℕ
home_if_any p n = if nat_lt n (item_count p) then home_at p n else None
