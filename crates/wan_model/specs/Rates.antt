-- A network with other rates.
use Rattle.std.specs.Prelude.{◌≡◌, ℕ, ◌<◌, List, length, Option, None, slice_index_or}
use Rattle.rollout_rules.specs.Sums.{list_below}
use Rattle.rollout_rules.specs.Wan.{Tunnel, Problem, tunnel_at}
use Rattle.rollout_rules.specs.Network.{IsRate}

-- the t-th of these rates; none past their end
abbrev pub rate_in : List (Option ℕ) → ℕ → Option ℕ
rate_in rates t = slice_index_or rates t None

-- tunnel t with the t-th of these old and of these new rates
abbrev pub rated : Problem → List (Option ℕ) → List (Option ℕ) → ℕ → Tunnel
rated p old new t = record (tunnel_at p t) { old = rate_in old t; new = rate_in new t }

-- the same network, each of its tunnels so
abbrev pub with_rates : Problem → List (Option ℕ) → List (Option ℕ) → Problem
with_rates p old new = record p { tunnels = list_below (length p.tunnels) (rated p old new) }

-- there is one for each tunnel, within the limit
pub record AreRates (p : Problem) (rates : List (Option ℕ)) : Type 0 where
  pub count : length rates ≡ length p.tunnels
  pub within : (t : ℕ) → t < length p.tunnels → IsRate (rate_in rates t)
