-- What a flow that goes on its way from the old split to the new one adds to links.
use Rattle.std.specs.Prelude.{ℕ, zero, suc, ◌-◌, ◌*◌, ◌<◌, List, [], ◌∷◌, ◌++◌, length, slice_index_or, nat_lt, ◌==◌, if◌then◌else◌}
use Rattle.rollout_rules.specs.Sums.{sum_below, list_below}
use Rattle.rollout_rules.specs.Wan.{Problem, tunnel_at, flow_at, tunnel_of, old_rate, new_rate}
use Rattle.plan_check.specs.Parts.{rate_share}
use Rattle.fewest_plan.specs.declared.gain.Gain.{Gain}

-- how much larger a tunnel's new rate is than its old one; a rate that sinks adds nothing to a step's maximum
abbrev pub gain : Problem → ℕ → ℕ
gain p t = new_rate (tunnel_at p t) - old_rate (tunnel_at p t)

-- what a step of 1 in a flow's share adds on a link by its j-th tunnel
abbrev pub part_at : Problem → ℕ → ℕ → ℕ → ℕ
part_at p f j = rate_share p (gain p) (tunnel_of p f j)

-- the growth of a flow on a link: what a step of 1 in its share adds there to the sum of the larger rates
unfoldable pub growth : Problem → ℕ → ℕ → ℕ
growth p f l = sum_below (flow_at p f).tunnels (λ j. part_at p f j l)

abbrev pub growths : Problem → ℕ → List ℕ
growths p f = list_below (length p.links) (growth p f)

-- a link, where the growth on it is above 0
abbrev pub gain_on : ℕ → ℕ → List Gain
gain_on l n = if nat_lt 0 n then record { link = l; growth = n } ∷ [] else []

-- those of the first n links
abbrev pub gains_in : (ℕ → ℕ) → ℕ → List Gain
gains_in g zero = []
gains_in g (suc n) = gains_in g n ++ gain_on n (g n)

-- the links on which a flow grows
unfoldable pub gains_of : Problem → ℕ → List Gain
gains_of p f = gains_in (growth p f) (length p.links)

abbrev pub all_gains : Problem → List (List Gain)
all_gains p = list_below (length p.flows) (gains_of p)

abbrev pub no_gain : Gain
no_gain = record { link = 0; growth = 0 }

abbrev pub gain_at : List Gain → ℕ → Gain
gain_at gains i = slice_index_or gains i no_gain

-- links of the problem, each with a growth above 0
pub record IsGain (p : Problem) (g : Gain) : Type 0 where
  pub link : g.link < length p.links
  pub growth : 0 < g.growth

abbrev pub AreGains : Problem → List Gain → Type 0
AreGains p gains = (i : ℕ) → i < length gains → IsGain p (gain_at gains i)

-- what so many steps of these gains add on a link
abbrev pub gained : List Gain → ℕ → ℕ → ℕ
gained gains far l = sum_below (length gains) (λ i. if (gain_at gains i).link == l then (gain_at gains i).growth * far else 0)
