-- The greedy rule: in a rate step each flow in turn goes as far on its way as SWAN's test lets it.
use Rattle.std.specs.Prelude.{◌≡◌, ℕ, zero, suc, ◌+◌, ◌-◌, ◌*◌, ◌/◌, ◌<◌, ◌≤◌, max, List, length, slice_index, slice_set}
use Rattle.rollout_rules.specs.Sums.{list_below, least_below}
use Rattle.rollout_rules.specs.Wan.{Problem, tunnel_at, link_at}
use Rattle.rollout_rules.specs.Items.{load}
use Rattle.scratch_plan.specs.Scratch.{blended}
use Rattle.fewest_plan.specs.declared.gain.Gain.{Gain}
use Rattle.fewest_plan.specs.Growth.{gains_of, gain_at}

-- a tunnel's rate in units of 1/d where its flow has gone a share of its way: so many of d parts
abbrev pub rate_after : Problem → ℕ → List ℕ → ℕ → ℕ
rate_after p d shares t = blended d (slice_index shares (tunnel_at p t).flow) (tunnel_at p t)

abbrev pub row_after : Problem → ℕ → List ℕ → List ℕ
row_after p d shares = list_below (length p.tunnels) (rate_after p d shares)

-- the top of a link in a rate step: the sum, over all tunnels across it, of the larger of the rates before and after the step; flows
-- that have not moved in it stand at both ends where they are
unfoldable pub top : Problem → ℕ → List ℕ → List ℕ → ℕ → ℕ
top p d before after l = load p (λ t. max (rate_after p d before t) (rate_after p d after t)) l

abbrev pub tops : Problem → ℕ → List ℕ → List ℕ → List ℕ
tops p d before after = list_below (length p.links) (top p d before after)

-- how many parts a flow may go on by the room on one link
abbrev pub lets : Problem → ℕ → List ℕ → Gain → ℕ
lets p d sums g = ((link_at p g.link).capacity * d - slice_index sums g.link) / g.growth

-- the same by all links on which it grows, and no more than it has left
abbrev pub reach : Problem → ℕ → List ℕ → List Gain → ℕ → ℕ
reach p d sums gains left = least_below (length gains) left (λ i. lets p d sums (gain_at gains i))

-- the shares once flow f was tried
abbrev pub far : Problem → ℕ → List ℕ → List ℕ → ℕ → ℕ
far p d before after f = reach p d (tops p d before after) (gains_of p f) (d - slice_index after f)

abbrev pub moved : Problem → ℕ → List ℕ → List ℕ → ℕ → List ℕ
moved p d before after f = slice_set after f (slice_index after f + far p d before after f)

-- once the first n flows of an order were tried
unfoldable pub tried : Problem → ℕ → List ℕ → List ℕ → ℕ → List ℕ
tried p d order before zero = before
tried p d order before (suc n) = moved p d before (tried p d order before n) (slice_index order n)

-- after a rate step
unfoldable pub step : Problem → ℕ → List ℕ → List ℕ → List ℕ
step p d order before = tried p d order before (length order)

-- a share per flow, none above the whole way
pub record AreShares (p : Problem) (d : ℕ) (shares : List ℕ) : Type 0 where
  pub count : length shares ≡ length p.flows
  pub most : (f : ℕ) → f < length p.flows → slice_index shares f ≤ d

-- numbers of flows
abbrev pub IsOrder : Problem → List ℕ → Type 0
IsOrder p order = (i : ℕ) → i < length order → slice_index order i < length p.flows
