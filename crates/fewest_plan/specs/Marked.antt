-- Links that are marked, and what tunnels and flows have on them.
use Rattle.std.specs.Prelude.{ℕ, ◌*◌, Bool, false, List, length, slice_index, slice_index_or, unwrap_or}
use Rattle.rollout_rules.specs.Sums.{sum_below, count_below}
use Rattle.rollout_rules.specs.Wan.{Problem, tunnel_at, flow_at, tunnel_of}
use Rattle.wan_model.specs.declared.side.Side.{Side}
use Rattle.wan_model.specs.Sides.{rate_on}

-- a mark per link
abbrev pub is_marked : List Bool → ℕ → Bool
is_marked marks l = slice_index_or marks l false

-- how many numbers of a row have a mark
abbrev pub marked_in : List Bool → List ℕ → ℕ
marked_in marks row = count_below (length row) (λ h. is_marked marks (slice_index row h))

-- how many marked links are on the path of a tunnel
abbrev pub crossed : Problem → List Bool → ℕ → ℕ
crossed p marks t = marked_in marks (tunnel_at p t).links

-- a tunnel's rate in a split, once for each marked link on its path
abbrev pub borne_by : Problem → List Bool → Side → ℕ → ℕ
borne_by p marks side t = unwrap_or (rate_on side (tunnel_at p t)) 0 * crossed p marks t

-- what a flow loads the marked links with in a split
abbrev pub borne : Problem → List Bool → Side → ℕ → ℕ
borne p marks side f = sum_below (flow_at p f).tunnels (λ j. borne_by p marks side (tunnel_of p f j))
