-- The network of a trial, as a function of its numbers and of what is drawn: a ring whose links and tables have what its flows need in
-- both splits, and on each link a share 1/k more.
use Rattle.std.specs.Prelude.{ℕ, ◌+◌, ◌-◌, ◌*◌, ◌/◌, max, true, List, replicate}
use Rattle.rand_pcg.specs.Lcg.{Lcg}
use Rattle.rollout_rules.specs.Items.{entries_at}
use Rattle.rollout_rules.specs.Slack.{new_load, old_load}
use Rattle.rollout_rules.specs.Sums.{list_below}
use Rattle.rollout_rules.specs.Wan.{Problem}
use Rattle.case_gen.specs.Draws.{after_draws}
use Rattle.case_gen.specs.Trips.{Trip, trips_drawn}
use Rattle.case_gen.specs.Rings.{network}

-- the least capacity of which a load leaves a share 1/k free
abbrev pub least_capacity : ℕ → ℕ → ℕ
least_capacity k load = (k * load + (k - 2)) / (k - 1)

-- the capacity that a link needs for both splits, and the table that a switch needs for every tunnel that passes it
abbrev pub capacity_for : ℕ → Problem → ℕ → ℕ
capacity_for k p l = least_capacity k (max (old_load p l) (new_load p l))

abbrev pub table_for : Problem → ℕ → ℕ
table_for p w = entries_at p (λ t h. true) w

-- the ring on which trips are made, without capacities and tables
abbrev pub bare_ring : ℕ → List Trip → Problem
bare_ring switches trips = network switches (replicate switches 0) (replicate (2 * switches) 0) trips

-- that ring with the capacities and the tables which its trips need
abbrev pub fitted_ring : ℕ → ℕ → List Trip → Problem
fitted_ring k switches trips =
    network switches
    (list_below switches (table_for (bare_ring switches trips)))
    (list_below (2 * switches) (capacity_for k (bare_ring switches trips)))
    trips

-- the network of a trial
unfoldable pub case : ℕ → ℕ → ℕ → Lcg → Problem
case k switches flows draws = fitted_ring k switches (trips_drawn draws switches flows)

-- what is left to draw after a case: its events
abbrev pub after_case : ℕ → Lcg → Lcg
after_case flows draws = after_draws draws (6 * flows)
