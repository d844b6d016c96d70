-- What a network on a ring is made of: tables, capacities and trips within the limits, and the ring of links itself.
use Rattle.std.specs.Prelude.{◌≡◌, ℕ, ◌+◌, ◌*◌, ◌/◌, ◌%◌, ◌<◌, ◌≤◌, List, length, IfSome, slice_index}
use Rattle.rollout_rules.specs.Wan.{Problem, link_at, new_rate, old_rate, tunnel_at}
use Rattle.rollout_rules.specs.declared.limits.TheConstants.{MOST_SWITCHES, MOST_FLOWS, LARGEST_TABLE, LARGEST_CAPACITY}
use Rattle.case_gen.specs.Trips.{Rates, Trip}
use Rattle.case_gen.specs.Rings.{trip_at}

-- at least three tables, one for each switch
pub record AreTables (tables : List ℕ) : Type 0 where
  pub least : 3 ≤ length tables
  pub most : length tables ≤ MOST_SWITCHES
  pub within : (w : ℕ) → w < length tables → slice_index tables w ≤ LARGEST_TABLE

-- a capacity for each of a ring's links
pub record AreCapacities (switches : ℕ) (capacities : List ℕ) : Type 0 where
  pub count : length capacities ≡ 2 * switches
  pub within : (l : ℕ) → l < length capacities → slice_index capacities l ≤ LARGEST_CAPACITY

-- the rates of a tunnel are at most 1,000, where it is installed
pub record AreRates (rates : Rates) : Type 0 where
  pub was : IfSome rates.old (λ r. r ≤ 1_000)
  pub becomes : IfSome rates.new (λ r. r ≤ 1_000)

-- a trip starts on the ring, and goes less than half of it round
pub record IsTrip (switches : ℕ) (trip : Trip) : Type 0 where
  pub starts : trip.start < switches
  pub goes : 1 ≤ trip.steps
  pub few : trip.steps ≤ 8
  pub short : 2 * trip.steps < switches
  pub single : AreRates trip.first
  pub double : AreRates trip.second

pub record AreTrips (switches : ℕ) (trips : List Trip) : Type 0 where
  pub few : length trips ≤ MOST_FLOWS
  pub each : (f : ℕ) → f < length trips → IsTrip switches (trip_at trips f)

-- the links are those of a ring of so many switches
pub record IsRing (switches : ℕ) (p : Problem) : Type 0 where
  pub least : 3 ≤ switches
  pub most : switches ≤ MOST_SWITCHES
  pub plain : p.format ≡ 1
  pub all : length p.switches ≡ switches
  pub count : length p.links ≡ 2 * switches
  pub from : (l : ℕ) → l < 2 * switches → (link_at p l).from ≡ l / 2
  pub to : (l : ℕ) → l < 2 * switches → (link_at p l).to ≡ (l / 2 + 1 + l % 2) % switches

-- no tunnel has a rate above 1,000
pub record HasSmallRates (p : Problem) : Type 0 where
  pub was : (t : ℕ) → t < length p.tunnels → old_rate (tunnel_at p t) ≤ 1_000
  pub becomes : (t : ℕ) → t < length p.tunnels → new_rate (tunnel_at p t) ≤ 1_000
