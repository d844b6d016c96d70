-- The network that a rollout leaves where it stands, with another new split: one that a target names, or what is settled but for what crosses a link.
use Rattle.std.specs.Prelude.{◌≡◌, ℕ, ◌*◌, ◌<◌, ◌≤◌, Bool, List, length, Option, Some, None, option_map, unwrap_or, is_some, if◌then◌else◌, Result}
use Rattle.rollout_rules.specs.declared.limits.TheConstants.{LARGEST_CAPACITY}
use Rattle.rollout_rules.specs.Sums.{list_below}
use Rattle.rollout_rules.specs.Wan.{Problem, Plan, link_at, tunnel_at, crosses, hops, old_rate}
use Rattle.rollout_rules.specs.Network.{IsRate}
use Rattle.rollout_rules.specs.History.{History, Places, places_of}
use Rattle.rollout_rules.specs.Safe.{settled_rate, settled_mark}
use Rattle.plan_check.specs.First.{first_of}
use Rattle.wan_model.specs.Rates.{rate_in}
use Rattle.retarget_plan.specs.Left.{factor_of, left_rate, left_rates, remade}
use Rattle.retarget_plan.specs.Leaving.{first_flying, first_partly, first_large, IsLeftUnless}
use Rattle.retarget_plan.specs.Standing.{unrated}
use Rattle.retarget_plan.specs.Units.{times}
use Rattle.retarget_plan.specs.declared.aim.Aim.{Aim}
use Rattle.retarget_plan.specs.declared.aim.Aim.TheVariants.{Toward, Shed}
use Rattle.retarget_plan.specs.declared.unleft.Unleft.{Unleft}

-- a capacity, where one is given
abbrev pub IsGiven : Option ℕ → Type 0
IsGiven None = Unit {0}
IsGiven (Some capacity) = capacity ≤ LARGEST_CAPACITY

-- the numbers of a target are within their limits
abbrev pub AreGiven : List (Option ℕ) → Type 0
AreGiven capacities = (l : ℕ) → IsGiven (rate_in capacities l)

abbrev pub AreWithin : List (Option ℕ) → Type 0
AreWithin rates = (t : ℕ) → IsRate (rate_in rates t)

abbrev pub MayAim : Aim → Type 0
MayAim (Toward target) = AreGiven target.capacities × AreWithin target.new
MayAim (Shed link) = Unit {0}

-- the capacity of a link, in the plan's units: the one that the target gives, and else its own
abbrev pub aimed_capacity : Problem → Aim → ℕ → ℕ
aimed_capacity p (Toward target) l = unwrap_or (rate_in target.capacities l) (link_at p l).capacity
aimed_capacity p (Shed link) l = (link_at p l).capacity

-- a rate, or 0 in its place where it is given up
abbrev pub shed_where : Bool → Option ℕ → Option ℕ
shed_where gives rate = option_map (λ n. if gives then 0 else n) rate

-- the new rate of a tunnel with this old one: the target's so many times, or the old one but for what crosses the link
abbrev pub rate_with : Problem → Aim → ℕ → Option ℕ → ℕ → Option ℕ
rate_with p (Toward target) factor old t = times factor (rate_in target.new t)
rate_with p (Shed link) factor old t = shed_where (crosses p t link) old

abbrev pub aimed_rate : Problem → Plan → Places → Aim → ℕ → Option ℕ
aimed_rate p plan at aim t = rate_with p aim (factor_of p plan at) (left_rate p plan at t) t

-- all in units in which the settled rates are whole
abbrev pub capacity_times : Problem → Aim → ℕ → ℕ → ℕ
capacity_times p aim factor l = aimed_capacity p aim l * factor

abbrev pub aimed_capacities : Problem → Aim → ℕ → List ℕ
aimed_capacities p aim factor = list_below (length p.links) (capacity_times p aim factor)

abbrev pub aimed_rates : Problem → Plan → Places → Aim → List (Option ℕ)
aimed_rates p plan at aim = list_below (length p.tunnels) (aimed_rate p plan at aim)

abbrev pub aimed_problem : Problem → Plan → Places → Aim → Problem
aimed_problem p plan at aim = remade p (aimed_capacities p aim (factor_of p plan at)) (left_rates p plan at) (aimed_rates p plan at aim)

-- Why there is none: as for what is left, by the numbers of this one.
abbrev pub large_aimed : Problem → Plan → Places → Aim → Option Unleft
large_aimed p plan at aim = first_large (aimed_capacities p aim (factor_of p plan at)) (left_rates p plan at) (aimed_rates p plan at aim)

abbrev pub partly_or_large_aimed : Problem → Plan → Places → Aim → Option Unleft
partly_or_large_aimed p plan at aim = first_of (first_partly p plan at) (large_aimed p plan at aim)

abbrev pub why_not_aimed : Problem → Plan → History → Aim → Option Unleft
why_not_aimed p plan h aim = first_of (first_flying p h) (partly_or_large_aimed p plan (places_of p h) aim)

abbrev pub IsAimed : Problem → Plan → History → Aim → Result Problem Unleft → Type 0
IsAimed p plan h aim answer = IsLeftUnless (why_not_aimed p plan h aim) (aimed_problem p plan (places_of p h) aim) answer

-- The same switches, flows, links and tunnels by the same numbers; the old split is what is settled, of which so many units of 1/scale make one, tunnel by tunnel and entry by entry.
pub record StandsAt (p : Problem) (plan : Plan) (at : Places) (divisor : ℕ) (q : Problem) : Type 0 where
  pub some : 0 < divisor
  pub switches : q.switches ≡ p.switches
  pub flows : q.flows ≡ p.flows
  pub links : length q.links ≡ length p.links
  pub tunnels : length q.tunnels ≡ length p.tunnels
  pub alike : (t : ℕ) → t < length p.tunnels → unrated (tunnel_at q t) ≡ unrated (tunnel_at p t)
  pub rates : (t : ℕ) → t < length p.tunnels → divisor * old_rate (tunnel_at q t) ≡ settled_rate p plan at t
  pub marks : (t h : ℕ) → t < length p.tunnels → h < hops p t → is_some (tunnel_at q t).old ≡ settled_mark p plan at t h

-- no link is given less than it had
abbrev pub KeepsCapacities : Problem → Aim → Type 0
KeepsCapacities p aim = (l : ℕ) → l < length p.links → (link_at p l).capacity ≤ aimed_capacity p aim l
