-- What a copy of a network asks of the capacities that it is given.
use Rattle.std.specs.Prelude.{◌≡◌, ℕ, ◌<◌, ◌≤◌, List, length, slice_index}
use Rattle.rollout_rules.specs.declared.limits.TheConstants.{LARGEST_CAPACITY}
use Rattle.rollout_rules.specs.Wan.{Problem}

-- there is one for each link, within the limit
pub record AreCapacities (p : Problem) (capacities : List ℕ) : Type 0 where
  pub count : length capacities ≡ length p.links
  pub within : (l : ℕ) → l < length p.links → slice_index capacities l ≤ LARGEST_CAPACITY
