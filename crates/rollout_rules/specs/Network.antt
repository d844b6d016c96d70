-- Which problems are networks: within the limits, with names and links that come once, and tunnels that follow links.
use Rattle.std.specs.Prelude.{◌≡◌, ℕ, ◌+◌, ◌-◌, ◌<◌, ◌≤◌, List, length, Option, slice_index, IfSome}
use Rattle.rollout_rules.specs.declared.limits.TheConstants.{MOST_SWITCHES, MOST_LINKS, MOST_FLOWS, MOST_TUNNELS, MOST_TUNNELS_OF_FLOW, MOST_HOPS, LONGEST_NAME, LARGEST_RATE, LARGEST_CAPACITY, LARGEST_TABLE, LARGEST_WIDTH}
use Rattle.rollout_rules.specs.Sums.{sum_below}
use Rattle.rollout_rules.specs.Wan.{Problem, switch_at, link_at, flow_at, tunnel_at, tunnel_of, hops, switch_of}

-- a rate is within the limit, where there is one
abbrev pub IsRate : Option ℕ → Type 0
IsRate r = IfSome r (λ n. n ≤ LARGEST_RATE)

-- each switch is within the limits, and no two have one name
pub record AreSwitches (p : Problem) : Type 0 where
  pub count : length p.switches ≤ MOST_SWITCHES
  pub names : (w : ℕ) → w < length p.switches → length (switch_at p w).name ≤ LONGEST_NAME
  pub tables : (w : ℕ) → w < length p.switches → (switch_at p w).table ≤ LARGEST_TABLE
  pub once : (v w : ℕ) → v < length p.switches → w < length p.switches → (switch_at p v).name ≡ (switch_at p w).name → v ≡ w

-- each link joins two switches, and no two links have the same ends in the same order
pub record AreLinks (p : Problem) : Type 0 where
  pub count : length p.links ≤ MOST_LINKS
  pub from : (l : ℕ) → l < length p.links → (link_at p l).from < length p.switches
  pub to : (l : ℕ) → l < length p.links → (link_at p l).to < length p.switches
  pub capacities : (l : ℕ) → l < length p.links → (link_at p l).capacity ≤ LARGEST_CAPACITY
  pub once : (k l : ℕ) → k < length p.links → l < length p.links → (link_at p k).from ≡ (link_at p l).from → (link_at p k).to ≡ (link_at p l).to → k ≡ l

-- the tunnels stand in the order of the flows, each flow's in a row
pub record AreFlows (p : Problem) : Type 0 where
  pub count : length p.flows ≤ MOST_FLOWS
  pub names : (f : ℕ) → f < length p.flows → length (flow_at p f).name ≤ LONGEST_NAME
  pub once : (f g : ℕ) → f < length p.flows → g < length p.flows → (flow_at p f).name ≡ (flow_at p g).name → f ≡ g
  pub few : (f : ℕ) → f < length p.flows → (flow_at p f).tunnels ≤ MOST_TUNNELS_OF_FLOW
  pub in_order : (f : ℕ) → f < length p.flows → (flow_at p f).first ≡ sum_below f (λ g. (flow_at p g).tunnels)
  pub all : length p.tunnels ≡ sum_below (length p.flows) (λ g. (flow_at p g).tunnels)

-- the path is a chain of the links, and has no switch twice
pub record IsPath (p : Problem) (path along : List ℕ) : Type 0 where
  pub least : 2 ≤ length path
  pub most : length path ≤ MOST_HOPS
  pub between : length along + 1 ≡ length path
  pub switches : (h : ℕ) → h < length path → slice_index path h < length p.switches
  pub once : (g h : ℕ) → g < length path → h < length path → slice_index path g ≡ slice_index path h → g ≡ h
  pub links : (h : ℕ) → h < length along → slice_index along h < length p.links
  pub from : (h : ℕ) → h < length along → (link_at p (slice_index along h)).from ≡ slice_index path h
  pub to : (h : ℕ) → h < length along → (link_at p (slice_index along h)).to ≡ slice_index path (h + 1)

-- A width is within the limit, and 1 in format 1.
pub record IsWidth (p : Problem) (width : ℕ) : Type 0 where
  pub some : 1 ≤ width
  pub most : width ≤ LARGEST_WIDTH
  pub plain : p.format ≡ 1 → width ≡ 1

-- each tunnel follows links, belongs to the flow in whose row it stands, and has the ends of that flow's first tunnel
pub record IsTunnel (p : Problem) (t : ℕ) : Type 0 where
  pub flow : (tunnel_at p t).flow < length p.flows
  pub behind : (flow_at p (tunnel_at p t).flow).first ≤ t
  pub ahead : t < (flow_at p (tunnel_at p t).flow).first + (flow_at p (tunnel_at p t).flow).tunnels
  pub path : IsPath p (tunnel_at p t).path (tunnel_at p t).links
  pub ingress : switch_of p t 0 ≡ switch_of p (tunnel_of p (tunnel_at p t).flow 0) 0
  pub egress : switch_of p t (hops p t - 1) ≡ switch_of p (tunnel_of p (tunnel_at p t).flow 0) (hops p (tunnel_of p (tunnel_at p t).flow 0) - 1)
  pub width : IsWidth p (tunnel_at p t).width
  pub old : IsRate (tunnel_at p t).old
  pub new : IsRate (tunnel_at p t).new

-- there are two formats
pub record IsFormat (format : ℕ) : Type 0 where
  pub low : 1 ≤ format
  pub high : format ≤ 2

pub record IsNetwork (p : Problem) : Type 0 where
  pub format : IsFormat p.format
  pub switches : AreSwitches p
  pub links : AreLinks p
  pub flows : AreFlows p
  pub few : length p.tunnels ≤ MOST_TUNNELS
  pub tunnels : (t : ℕ) → t < length p.tunnels → IsTunnel p t
