-- The network that a rollout leaves where it stands: with what is settled as its old split.
use Rattle.std.specs.Prelude.{ℕ, ◌*◌, ◌/◌, Bool, List, length, slice_index, Option, Some, None, if◌then◌else◌}
use Rattle.rollout_rules.specs.Sums.{all_below, list_below}
use Rattle.rollout_rules.specs.Wan.{Problem, Plan, Link, link_at, tunnel_at, hops}
use Rattle.rollout_rules.specs.History.{Places}
use Rattle.rollout_rules.specs.Safe.{settled_rate, settled_mark}
use Rattle.rollout_rules.specs.Valid.{same_mark}
use Rattle.wan_model.specs.Rates.{with_rates}
use Rattle.retarget_plan.specs.Units.{divisor_below, times}

-- whether a tunnel's entries are all there, or none of them is
abbrev pub is_whole : Problem → Plan → Places → ℕ → Bool
is_whole p plan at t = all_below (hops p t) (λ h. same_mark (settled_mark p plan at t h) (settled_mark p plan at t 0))

-- So many units of 1/scale make one unit, the largest in which each settled rate is whole; and so many units are 1.
abbrev pub divisor_of : Problem → Plan → Places → ℕ
divisor_of p plan at = divisor_below (length p.tunnels) plan.scale (settled_rate p plan at)

abbrev pub factor_of : Problem → Plan → Places → ℕ
factor_of p plan at = plan.scale / divisor_of p plan at

-- the settled rate of a tunnel in these units, where its entries are there
abbrev pub left_rate : Problem → Plan → Places → ℕ → Option ℕ
left_rate p plan at t = if settled_mark p plan at t 0 then Some (settled_rate p plan at t / divisor_of p plan at) else None

abbrev pub left_rates : Problem → Plan → Places → List (Option ℕ)
left_rates p plan at = list_below (length p.tunnels) (left_rate p plan at)

-- the capacity of each link, and the new rate of each tunnel, so many times
abbrev pub scaled_capacity : Problem → ℕ → ℕ → ℕ
scaled_capacity p factor l = (link_at p l).capacity * factor

abbrev pub scaled_capacities : Problem → ℕ → List ℕ
scaled_capacities p factor = list_below (length p.links) (scaled_capacity p factor)

abbrev pub scaled_target : Problem → ℕ → ℕ → Option ℕ
scaled_target p factor t = times factor (tunnel_at p t).new

abbrev pub scaled_targets : Problem → ℕ → List (Option ℕ)
scaled_targets p factor = list_below (length p.tunnels) (scaled_target p factor)

-- both in these units
abbrev pub left_capacities : Problem → Plan → Places → List ℕ
left_capacities p plan at = scaled_capacities p (factor_of p plan at)

abbrev pub left_targets : Problem → Plan → Places → List (Option ℕ)
left_targets p plan at = scaled_targets p (factor_of p plan at)

-- the same network, each of its links with such a capacity
abbrev pub sized : Problem → List ℕ → ℕ → Link
sized p capacities l = record (link_at p l) { capacity = slice_index capacities l }

abbrev pub with_capacities : Problem → List ℕ → Problem
with_capacities p capacities = record p { links = list_below (length p.links) (sized p capacities) }

-- the same network with these capacities and rates
abbrev pub remade : Problem → List ℕ → List (Option ℕ) → List (Option ℕ) → Problem
remade p capacities old new = with_rates (with_capacities p capacities) old new

-- What is settled, as the old split of the same network in these units, with these new rates; and the one with the new rates that the rollout had.
abbrev pub left_with : Problem → Plan → Places → List (Option ℕ) → Problem
left_with p plan at new = remade p (left_capacities p plan at) (left_rates p plan at) new

abbrev pub left_problem : Problem → Plan → Places → Problem
left_problem p plan at = left_with p plan at (left_targets p plan at)
