-- The switches, links, flows and tunnels of a problem: each is added to what stands, or is a fault. Each one's number is
-- how many stand before it.
use Rattle.std.specs.Prelude.{ℕ, ◌+◌, ◌-◌, List, [], ◌∷◌, ◌++◌, length, slice_index, is_some, is_none, ok_or, Bool, not, ◌||◌, ◌==◌, nat_le, Result, Ok}
use Rattle.std.specs.List.{list_any}
use Rattle.serde_json.specs.Data.{Data}
use Rattle.serde_json.specs.Events.{items_len}
use Rattle.rollout_rules.specs.Wan.{Problem}
use Rattle.rollout_rules.specs.declared.limits.TheConstants.{MOST_TUNNELS, MOST_TUNNELS_OF_FLOW, MOST_HOPS, LARGEST_TABLE, LARGEST_CAPACITY}
use Rattle.rollout_rules.specs.Building.{find_switch, find_flow, find_link, with_switch, with_link, with_flow, with_tunnel, has_ends, last_flow}
use Rattle.problem_json.specs.GrammarResults.{◌>>=◌, held, add_each}
use Rattle.problem_json.specs.GrammarValues.{member_in, text_in, list_of, name_of, number_of, rate_of, width_of}
use Rattle.problem_json.specs.GrammarGrowth.{tunnels_of_last}
use Rattle.problem_json.specs.Places.{place_at, place_in, place_along}
use Rattle.problem_json.specs.declared.place.Place.{Place}
use Rattle.problem_json.specs.declared.place.Part.{Part}
use Rattle.problem_json.specs.declared.place.Part.TheVariants as part
use Rattle.problem_json.specs.declared.key.Key.{Key}
use Rattle.problem_json.specs.declared.key.Key.TheVariants as key
use Rattle.problem_json.specs.declared.fault.InputFault.{InputFault}
use Rattle.problem_json.specs.declared.fault.InputFault.TheVariants.{TooMany, NameTwice, UnknownSwitch, LinkTwice, NoSuchLink, SwitchTwice, EndsDiffer, ShortPath}

-- a part of the switch, link or flow that is added next, and of the tunnel that is added next to the last flow

abbrev pub of_switch : Part → Problem → Place
of_switch what p = place_at what (length p.switches)

abbrev pub of_link : Part → Problem → Place
of_link what p = place_at what (length p.links)

abbrev pub of_flow : Part → Problem → Place
of_flow what p = place_at what (length p.flows)

abbrev pub of_tunnel : Part → Problem → Place
of_tunnel what p = place_in what (last_flow p) (tunnels_of_last p)

-- the name that is added next to that tunnel's path
abbrev pub of_hop : Problem → List ℕ → Place
of_hop p path = place_along part.PathName (last_flow p) (tunnels_of_last p) (length path)

-- a switch whose name is new
unfoldable pub with_one_switch : Data → Problem → Result Problem InputFault
with_one_switch d p = do
  name ← name_of (of_switch part.Switch p) (of_switch part.SwitchName p) d
  _ ← held (is_none (find_switch p name)) (NameTwice (of_switch part.SwitchName p))
  table ← number_of (of_switch part.Switch p) key.Table (of_switch part.SwitchTable p) LARGEST_TABLE d
  Ok (with_switch p name table)

-- the switch that a text names
unfoldable pub switch_named : Place → Problem → Data → Result ℕ InputFault
switch_named place p d = do
  name ← text_in place d
  ok_or (find_switch p name) (UnknownSwitch place)

-- the switch at an end of the link that is added next
unfoldable pub end_of : Key → Part → Problem → Data → Result ℕ InputFault
end_of asked what p d = member_in (of_link part.Link p) asked d >>= switch_named (of_link what p) p

-- a link between two switches that none joins in this direction
unfoldable pub with_one_link : Data → Problem → Result Problem InputFault
with_one_link d p = do
  from ← end_of key.From part.LinkFrom p d
  to ← end_of key.To part.LinkTo p d
  capacity ← number_of (of_link part.Link p) key.Capacity (of_link part.LinkCapacity p) LARGEST_CAPACITY d
  _ ← held (is_none (find_link p from to)) (LinkTwice (of_link part.Link p))
  Ok (with_link p from to capacity)

-- whether a path may go on to a switch: it is empty, or a link leads there from its last switch
abbrev pub leads_on : Problem → List ℕ → ℕ → Bool
leads_on p path next = (length path == 0) || is_some (find_link p (slice_index path (length path - 1)) next)

-- one switch more on a path
unfoldable pub with_one_hop : Problem → Data → List ℕ → Result (List ℕ) InputFault
with_one_hop p d path = do
  next ← switch_named (of_hop p path) p d
  _ ← held (not (list_any (λ s. s == next) path)) (SwitchTwice (of_hop p path))
  _ ← held (leads_on p path next) (NoSuchLink (of_hop p path))
  Ok (path ++ next ∷ [])

-- a path of two switches or more
unfoldable pub path_of : Problem → Data → Result (List ℕ) InputFault
path_of p d = do
  names ← list_of (of_tunnel part.Tunnel p) key.Path (of_tunnel part.Path p) MOST_HOPS d
  _ ← held (nat_le 2 (items_len names)) (ShortPath (of_tunnel part.Path p) (items_len names))
  add_each (with_one_hop p) names []

-- a tunnel of the last flow, with the ends of that flow's first
unfoldable pub with_one_tunnel : Data → Problem → Result Problem InputFault
with_one_tunnel d p = do
  path ← path_of p d
  _ ← held (has_ends p (last_flow p) path) (EndsDiffer (of_tunnel part.Tunnel p))
  old ← rate_of (of_tunnel part.Tunnel p) key.Old (of_tunnel part.Old p) d
  new ← rate_of (of_tunnel part.Tunnel p) key.New (of_tunnel part.New p) d
  width ← width_of (of_tunnel part.Tunnel p) (of_tunnel part.Width p) p.format d
  Ok (with_tunnel p path old new width)

-- a flow whose name is new, with its tunnels, of which there is room for all
unfoldable pub with_one_flow : Data → Problem → Result Problem InputFault
with_one_flow d p = do
  name ← name_of (of_flow part.Flow p) (of_flow part.FlowName p) d
  _ ← held (is_none (find_flow p name)) (NameTwice (of_flow part.FlowName p))
  tunnels ← list_of (of_flow part.Flow p) key.Tunnels (of_flow part.Tunnels p) MOST_TUNNELS_OF_FLOW d
  _ ← held (nat_le (length p.tunnels + items_len tunnels) MOST_TUNNELS) (TooMany (of_flow part.Tunnels p) (length p.tunnels + items_len tunnels) MOST_TUNNELS)
  add_each with_one_tunnel tunnels (with_flow p name)
