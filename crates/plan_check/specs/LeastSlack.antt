-- The share of every link that is free in both splits, and loads that were added up.
use Rattle.std.specs.Prelude.{◌≡◌, ℕ, ◌-◌, ◌*◌, ◌<◌, Bool, ◌&&◌, nat_le, List, length, Option, slice_index, unwrap_or}
use Rattle.rollout_rules.specs.Wan.{Problem, link_at, tunnel_at}
use Rattle.rollout_rules.specs.Items.{load}
use Rattle.rollout_rules.specs.Slack.{old_load, new_load, has_slack}
use Rattle.wan_model.specs.declared.side.Side.{Side}
use Rattle.wan_model.specs.Sides.{rate_on}
use Rattle.plan_check.specs.First.{first_below, provided}

-- whether a share 1/k of link l is free in both splits
abbrev pub has_slack_at : Problem → ℕ → ℕ → Bool
has_slack_at p k l = nat_le (k * old_load p l) ((k - 1) * (link_at p l).capacity) && nat_le (k * new_load p l) ((k - 1) * (link_at p l).capacity)

-- a number from 2 on, where the problem has slack of that share
abbrev pub slack_of : Problem → ℕ → Option ℕ
slack_of p k = provided (nat_le 2 k && has_slack p k) k

-- the least k from 2 to 64 for which the problem has slack 1/k
unfoldable pub least_slack : Problem → Option ℕ
least_slack p = first_below 65 (slack_of p)

-- the load on a link in a split
abbrev pub load_on : Side → Problem → ℕ → ℕ
load_on side p l = load p (λ t. unwrap_or (rate_on side (tunnel_at p t)) 0) l

-- a number per link: its load in a split
pub record AreLoads (side : Side) (p : Problem) (sums : List ℕ) : Type 0 where
  pub count : length sums ≡ length p.links
  pub each : (l : ℕ) → l < length p.links → slice_index sums l ≡ load_on side p l
