-- How much of a resource is taken, from the least stage at which an item stands on.
use Rattle.std.specs.Prelude.{ℕ, Bool, ◌||◌, nat_le, nat_lt, if◌then◌else◌}
use Rattle.rollout_rules.specs.Sums.{all_below}
use Rattle.rollout_rules.specs.Wan.{Problem, Plan, last_stage}
use Rattle.rollout_rules.specs.Items.{Resource, sum_items, least_items, all_resources, capacity_of, use_at, step_maximum}
use Rattle.rollout_rules.specs.History.{Places, stand}
use Rattle.rollout_rules.specs.declared.item.Item.{Item}

-- the least stage at which an item stands, or the last stage where there is no item
abbrev pub least_stage : Problem → Plan → Places → ℕ
least_stage p plan at = least_items p (last_stage plan) (stand p plan at)

-- What an item adds at stage s: its step maximum there while it stands at s or before; what it uses where it stands
-- past s; and, while it flies past s, the step maximum of its own stage.
abbrev pub share : Problem → Plan → Places → ℕ → Resource → Item → ℕ
share p plan at s r i =
    if nat_le (stand p plan at i) s then step_maximum p plan s i r
    else (if at.flies i then step_maximum p plan (stand p plan at i) i r else use_at p plan (stand p plan at i) i r)

abbrev pub room : Problem → Plan → Places → ℕ → Resource → ℕ
room p plan at s r = sum_items p (share p plan at s r)

-- whether every resource is within its capacity at stage s
abbrev pub fits_at : Problem → Plan → Places → ℕ → Bool
fits_at p plan at s = all_resources p (λ r. nat_le (room p plan at s r) (capacity_of p plan r))

-- whether it is at every stage from the least on
abbrev pub fits : Problem → Plan → Places → Bool
fits p plan at = all_below (last_stage plan) (λ s. nat_lt s (least_stage p plan at) || fits_at p plan at s)
