-- What running sums over tunnels grow by, and what they come to.
use Rattle.std.specs.Prelude.{◌≡◌, ℕ, ◌+◌, ◌*◌, ◌^◌, ◌<◌, ◌≤◌, ◌&&◌, List, length, slice_index, ◌==◌, if◌then◌else◌}
use Rattle.rollout_rules.specs.Sums.{sum_below}
use Rattle.rollout_rules.specs.Wan.{Problem, Plan, crosses, hops, switch_of, width_of}
use Rattle.rollout_rules.specs.Items.{Resource, greater_rate, either_mark}
use Rattle.rollout_rules.specs.Valid.{step_total}

-- what a row of numbers adds to the sum of number k: the amount, once for each place at which k stands
abbrev pub added : List ℕ → ℕ → ℕ → ℕ
added row amount k = sum_below (length row) (λ h. if slice_index row h == k then amount else 0)

-- each of a list of sums has grown by its share, which is below the bound
pub record GrownBy (old new : List ℕ) (share : ℕ → ℕ) (most : ℕ) : Type 0 where
  pub count : length new ≡ length old
  pub each : (k : ℕ) → k < length old → slice_index new k ≡ slice_index old k + share k
  pub few : (k : ℕ) → k < length old → slice_index new k ≤ slice_index old k + most

-- the most that one tunnel adds to a sum, with no regard to how often its path meets a link
abbrev pub largest_share : ℕ
largest_share = 17 * 2 ^ 64

-- what tunnel t adds to the load of link l at these rates
abbrev pub rate_share : Problem → (ℕ → ℕ) → ℕ → ℕ → ℕ
rate_share p rate t l = if crosses p t l then rate t else 0

-- what tunnel t adds to the load of link l, and to what is taken of the table of switch w, in the step from stage s on
abbrev pub load_share : Problem → Plan → ℕ → ℕ → ℕ → ℕ
load_share p plan s = rate_share p (greater_rate plan s)

abbrev pub entry_share : Problem → Plan → ℕ → ℕ → ℕ → ℕ
entry_share p plan s t w = sum_below (hops p t) (λ h. if (switch_of p t h == w) && either_mark plan s t then width_of p t else 0)

-- a sum per link or per table: what all items may take of it in the step from stage s on
pub record AreTotals (p : Problem) (plan : Plan) (s rows : ℕ) (resource : ℕ → Resource) (sums : List ℕ) : Type 0 where
  pub count : length sums ≡ rows
  pub each : (k : ℕ) → k < rows → slice_index sums k ≡ step_total p plan s (resource k)
