-- A problem as it is built, row by row, and what each row asks.
use Rattle.std.specs.Prelude.{◌≡◌, ℕ, ◌+◌, ◌-◌, ◌<◌, ◌≤◌, Bool, true, ◌&&◌, ◌||◌, List, [], ◌∷◌, ◌++◌, length, Option, None, IsSome, unwrap_or, slice_index, slice_set, ◌==◌}
use Rattle.std.specs.List.{position}
use Rattle.rollout_rules.specs.Sums.{same_numbers}
use Rattle.rollout_rules.specs.Wan.{Flow, Problem, flow_at, tunnel_of, hops, switch_of}
use Rattle.rollout_rules.specs.declared.limits.TheConstants.{MOST_SWITCHES, MOST_LINKS, MOST_FLOWS, MOST_TUNNELS, MOST_TUNNELS_OF_FLOW, MOST_HOPS, LONGEST_NAME, LARGEST_CAPACITY, LARGEST_TABLE}
use Rattle.rollout_rules.specs.Network.{IsRate, IsWidth}

-- a problem without rows, in format 1 and in format 2
abbrev pub no_problem : Problem
no_problem = record { format = 1; switches = []; links = []; flows = []; tunnels = [] }

abbrev pub no_wide_problem : Problem
no_wide_problem = record no_problem { format = 2 }

-- the first switch, flow or link with this name or these ends, by its number
abbrev pub find_switch : Problem → List ℕ → Option ℕ
find_switch p name = position (λ s. same_numbers s.name name) p.switches

abbrev pub find_flow : Problem → List ℕ → Option ℕ
find_flow p name = position (λ f. same_numbers f.name name) p.flows

abbrev pub find_link : Problem → ℕ → ℕ → Option ℕ
find_link p from to = position (λ l. (l.from == from) && (l.to == to)) p.links

-- the links from each switch of a path to the next
abbrev pub links_along : Problem → List ℕ → List ℕ
links_along p [] = []
links_along p (a ∷ []) = []
links_along p (a ∷ b ∷ path) = unwrap_or (find_link p a b) 0 ∷ links_along p (b ∷ path)

abbrev pub with_switch : Problem → List ℕ → ℕ → Problem
with_switch p name table = record p { switches = p.switches ++ record { name = name; table = table } ∷ [] }

abbrev pub with_link : Problem → ℕ → ℕ → ℕ → Problem
with_link p from to capacity = record p { links = p.links ++ record { from = from; to = to; capacity = capacity } ∷ [] }

-- a flow that has no tunnels yet
abbrev pub with_flow : Problem → List ℕ → Problem
with_flow p name = record p { flows = p.flows ++ record { name = name; first = length p.tunnels; tunnels = 0 } ∷ [] }

-- the number of the last flow, and that flow with one tunnel more
abbrev pub last_flow : Problem → ℕ
last_flow p = length p.flows - 1

abbrev pub with_one_more : Flow → Flow
with_one_more f = record f { tunnels = f.tunnels + 1 }

-- a tunnel of the last flow, with its old and its new rate and its width
abbrev pub with_tunnel : Problem → List ℕ → Option ℕ → Option ℕ → ℕ → Problem
with_tunnel p path old new width = record p {
  flows = slice_set p.flows (last_flow p) (with_one_more (flow_at p (last_flow p)));
  tunnels = p.tunnels ++ record { flow = last_flow p; path = path; links = links_along p path; width = width; old = old; new = new } ∷ [];
}

-- what a switch asks: room, a short name that is new, a table within the limit
pub record MayAddSwitch (p : Problem) (name : List ℕ) (table : ℕ) : Type 0 where
  pub room : length p.switches < MOST_SWITCHES
  pub short : length name ≤ LONGEST_NAME
  pub fresh : find_switch p name ≡ None
  pub within : table ≤ LARGEST_TABLE

-- what a link asks: room, two switches that no link joins in this direction, a capacity within the limit
pub record MayAddLink (p : Problem) (a b capacity : ℕ) : Type 0 where
  pub room : length p.links < MOST_LINKS
  pub begins : a < length p.switches
  pub ends : b < length p.switches
  pub fresh : find_link p a b ≡ None
  pub within : capacity ≤ LARGEST_CAPACITY

-- what a flow asks: room, and a short name that is new
pub record MayAddFlow (p : Problem) (name : List ℕ) : Type 0 where
  pub room : length p.flows < MOST_FLOWS
  pub short : length name ≤ LONGEST_NAME
  pub fresh : find_flow p name ≡ None

-- a row of switches, none twice, each joined to the next by a link
pub record IsRoute (p : Problem) (path : List ℕ) : Type 0 where
  pub most : length path ≤ MOST_HOPS
  pub switches : (h : ℕ) → h < length path → slice_index path h < length p.switches
  pub once : (g h : ℕ) → g < length path → h < length path → slice_index path g ≡ slice_index path h → g ≡ h
  pub joined : (h : ℕ) → h + 1 < length path → IsSome (find_link p (slice_index path h) (slice_index path (h + 1)))

-- whether a path has the ends of the flow's first tunnel, where there is one
abbrev pub has_ends : Problem → ℕ → List ℕ → Bool
has_ends p f path =
    ((flow_at p f).tunnels == 0)
    || ((slice_index path 0 == switch_of p (tunnel_of p f 0) 0)
    && (slice_index path (length path - 1) == switch_of p (tunnel_of p f 0) (hops p (tunnel_of p f 0) - 1)))

-- what a tunnel of the last flow asks: a flow with room for it, a route of two switches or more with the flow's ends, and
-- rates and a width within the limits
pub record MayAddTunnel (p : Problem) (path : List ℕ) (was becomes : Option ℕ) (wide : ℕ) : Type 0 where
  pub some_flow : 0 < length p.flows
  pub few : (flow_at p (last_flow p)).tunnels < MOST_TUNNELS_OF_FLOW
  pub room : length p.tunnels < MOST_TUNNELS
  pub route : IsRoute p path
  pub least : 2 ≤ length path
  pub ends : has_ends p (last_flow p) path ≡ true
  pub old : IsRate was
  pub new : IsRate becomes
  pub width : IsWidth p wide
