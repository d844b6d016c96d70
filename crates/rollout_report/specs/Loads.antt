-- What the links have to carry while a history goes on: each tunnel's larger rate, and each link's sum of these.
use Rattle.std.specs.Prelude.{◌≡◌, ℕ, ◌+◌, ◌<◌, ◌≤◌, max, List, length, slice_index}
use Rattle.rollout_rules.specs.Wan.{Problem, Plan, tunnel_at, tunnel_of, rate_at}
use Rattle.rollout_rules.specs.Items.{load}
use Rattle.rollout_rules.specs.History.{History}
use Rattle.rollout_rules.specs.Release.{most_below}
use Rattle.rollout_report.specs.Peaks.{larger_rate, link_sum, front}

-- the rate of each tunnel, the sum of each link, and its peak so far
pub record LinkLoads : Type 0 where
  pub rates : List ℕ
  pub sums : List ℕ
  pub peaks : List ℕ

-- the larger rate of a tunnel at two stages
abbrev pub larger_at : Plan → ℕ → ℕ → ℕ → ℕ
larger_at plan here next t = max (rate_at plan here t) (rate_at plan next t)

-- each link's sum where tunnels carry these rates
pub record AreSums (p : Problem) (rates sums : List ℕ) : Type 0 where
  pub tunnels : length rates ≡ length p.tunnels
  pub links : length sums ≡ length p.links
  pub each : (l : ℕ) → l < length p.links → slice_index sums l ≡ load p (slice_index rates) l

-- each tunnel's larger rate after a history, and what these add up to
pub record AreLoads (p : Problem) (plan : Plan) (h : History) (rates sums : List ℕ) : Type 0 where
  pub are_sums : AreSums p rates sums
  pub each_rate : (t : ℕ) → t < length p.tunnels → slice_index rates t ≡ larger_rate p plan h t

-- the greatest sum of each link at the start and after each of the first k entries
pub record AreLinkPeaks (p : Problem) (plan : Plan) (h : History) (k : ℕ) (peaks : List ℕ) : Type 0 where
  pub links : length peaks ≡ length p.links
  pub each : (l : ℕ) → l < length p.links → slice_index peaks l ≡ most_below (k + 1) (λ i. link_sum p plan (front h i) l)

-- the loads after the first k entries, and the peaks up to there
pub record AreLoadsAt (p : Problem) (plan : Plan) (h : History) (k : ℕ) (at : LinkLoads) : Type 0 where
  pub loads : AreLoads p plan (front h k) at.rates at.sums
  pub peaks : AreLinkPeaks p plan h k at.peaks

-- a flow's tunnels have the larger of their rates at two stages, and all others are as before
pub record AreRefreshed (p : Problem) (plan : Plan) (f here next : ℕ) (before rates : List ℕ) : Type 0 where
  pub own : (t : ℕ) → t < length p.tunnels → (tunnel_at p t).flow ≡ f → slice_index rates t ≡ larger_at plan here next t
  pub others : (t : ℕ) → t < length p.tunnels → ((tunnel_at p t).flow ≡ f → ⊥) → slice_index rates t ≡ slice_index before t

-- The peaks of the links that a flow's first so many tunnels cross have been raised to their sums: no peak fell, and none
-- rose above its sum.
pub record AreRaised (p : Problem) (f tunnels : ℕ) (sums before peaks : List ℕ) : Type 0 where
  pub links : length peaks ≡ length before
  pub least : (l : ℕ) → slice_index before l ≤ slice_index peaks l
  pub most : (l : ℕ) → slice_index peaks l ≤ max (slice_index before l) (slice_index sums l)
  pub crossed : (j g : ℕ) → j < tunnels → g < length (tunnel_at p (tunnel_of p f j)).links → slice_index sums (slice_index (tunnel_at p (tunnel_of p f j)).links g) ≤ slice_index peaks (slice_index (tunnel_at p (tunnel_of p f j)).links g)
