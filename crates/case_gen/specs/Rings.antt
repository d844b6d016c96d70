-- A network whose switches stand in a ring, each with a link to the next one and a link to the one after that, and whose flows
-- have two tunnels each between the same ends: one in steps of one switch, and one in steps of two.
use Rattle.std.specs.Prelude.{ℕ, zero, suc, ◌+◌, ◌-◌, ◌*◌, ◌/◌, ◌%◌, List, [], ◌∷◌, ◌++◌, length, codes, decimal, slice_index, slice_index_or}
use Rattle.rollout_rules.specs.Sums.{list_below}
use Rattle.rollout_rules.specs.Wan.{Flow, Link, Problem, Switch, Tunnel}
use Rattle.case_gen.specs.Trips.{Rates, Trip, no_trip}

abbrev pub switch_with : ℕ → ℕ → Switch
switch_with number table = record { name = codes "s" ++ decimal number; table = table }

abbrev pub link_with : ℕ → ℕ → ℕ → Link
link_with switches l capacity = record { from = l / 2; to = (l / 2 + 1 + l % 2) % switches; capacity = capacity }

abbrev pub flow_named : ℕ → Flow
flow_named f = record { name = codes "f" ++ decimal f; first = 2 * f; tunnels = 2 }

-- the link by which a step of one or of two switches leaves a switch
abbrev pub link_from : ℕ → ℕ → ℕ
link_from switch step = 2 * switch + (step - 1)

-- a walk of so many steps round the ring, the switches that it passes, and the links that it takes
abbrev pub walked : ℕ → ℕ → ℕ → ℕ → ℕ
walked switches start step j = (start + j * step) % switches

abbrev pub walk : ℕ → ℕ → ℕ → ℕ → List ℕ
walk switches start step count = list_below (count + 1) (walked switches start step)

abbrev pub links_of_walk : ℕ → ℕ → ℕ → ℕ → List ℕ
links_of_walk switches start step count = list_below count (λ j. link_from (walked switches start step j) step)

abbrev pub tunnel_along : ℕ → ℕ → ℕ → ℕ → ℕ → Rates → Tunnel
tunnel_along switches flow start step count rates = record {
  flow = flow;
  path = walk switches start step count;
  links = links_of_walk switches start step count;
  width = 1;
  old = rates.old;
  new = rates.new;
}

abbrev pub first_tunnel : ℕ → ℕ → Trip → Tunnel
first_tunnel switches flow trip = tunnel_along switches flow trip.start 1 (2 * trip.steps) trip.first

abbrev pub second_tunnel : ℕ → ℕ → Trip → Tunnel
second_tunnel switches flow trip = tunnel_along switches flow trip.start 2 trip.steps trip.second

abbrev pub trip_at : List Trip → ℕ → Trip
trip_at trips f = slice_index_or trips f no_trip

-- the first so many switches and links, with their tables and capacities
unfoldable pub switches_below : List ℕ → ℕ → List Switch
switches_below tables = λ w. list_below w (λ v. switch_with v (slice_index tables v))

unfoldable pub links_below : ℕ → List ℕ → ℕ → List Link
links_below switches capacities = λ l. list_below l (λ k. link_with switches k (slice_index capacities k))

-- the first so many flows, and both tunnels of each
unfoldable pub flows_below : ℕ → List Flow
flows_below = λ f. list_below f flow_named

unfoldable pub tunnels_below : ℕ → List Trip → ℕ → List Tunnel
tunnels_below switches trips zero = []
tunnels_below switches trips (suc f) =
    tunnels_below switches trips f ++ first_tunnel switches f (trip_at trips f) ∷ second_tunnel switches f (trip_at trips f) ∷ []

-- the whole network: a flow for each trip
abbrev pub network : ℕ → List ℕ → List ℕ → List Trip → Problem
network switches tables capacities trips = record {
  format = 1;
  switches = switches_below tables switches;
  links = links_below switches capacities (2 * switches);
  flows = flows_below (length trips);
  tunnels = tunnels_below switches trips (length trips);
}
