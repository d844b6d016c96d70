-- What each flow of a trial draws: its trip round the ring.
use Rattle.std.specs.Prelude.{ℕ, ◌+◌, ◌-◌, ◌*◌, ◌/◌, min, List, Option, Some, None, nat_le, if◌then◌else◌}
use Rattle.rand_pcg.specs.Lcg.{Lcg}
use Rattle.rollout_rules.specs.Sums.{list_below}
use Rattle.case_gen.specs.Draws.{after_draws, drawn}

-- the old and the new rate of a tunnel, where it is installed
pub record Rates : Type 0 where
  pub old : Option ℕ
  pub new : Option ℕ

-- where a flow starts, how many steps of two switches it goes, and the rates of its two tunnels
pub record Trip : Type 0 where
  pub start : ℕ
  pub steps : ℕ
  pub first : Rates
  pub second : Rates

abbrev pub no_trip : Trip
no_trip = record { start = 0; steps = 0; first = record { old = None; new = None }; second = record { old = None; new = None } }

-- a rate up to 1,000, or none: about one in eleven isn't installed
abbrev pub rate_of : ℕ → Option ℕ
rate_of r = if nat_le r 1_000 then Some r else None

abbrev pub rate_drawn : Lcg → Option ℕ
rate_drawn draws = rate_of (drawn draws 0 1_101)

abbrev pub rates_drawn : Lcg → Rates
rates_drawn draws = record { old = rate_drawn draws; new = rate_drawn (after_draws draws 1) }

-- the most steps of two switches: 8, and less than half of the ring
abbrev pub most_steps : ℕ → ℕ
most_steps switches = min 8 ((switches - 1) / 2)

-- a trip takes six draws
abbrev pub trip_drawn : Lcg → ℕ → Trip
trip_drawn draws switches = record {
  start = drawn draws 0 switches;
  steps = 1 + drawn draws 1 (most_steps switches);
  first = rates_drawn (after_draws draws 2);
  second = rates_drawn (after_draws draws 4);
}

-- so many trips, one drawn after the other
abbrev pub trips_drawn : Lcg → ℕ → ℕ → List Trip
trips_drawn draws switches flows = list_below flows (λ f. trip_drawn (after_draws draws (6 * f)) switches)
