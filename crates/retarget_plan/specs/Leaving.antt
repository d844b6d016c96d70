-- Why no problem is left: something in flight, then a tunnel of which some entries are there alone, then a number above its limit.
use Rattle.std.specs.Prelude.{◌≡◌, ℕ, Option, Some, None, unwrap_or, List, length, slice_index, nat_le, Result, Ok, Err}
use Rattle.rollout_rules.specs.declared.limits.TheConstants.{LARGEST_CAPACITY, LARGEST_RATE}
use Rattle.rollout_rules.specs.Wan.{Problem, Plan}
use Rattle.rollout_rules.specs.Items.{item_count}
use Rattle.rollout_rules.specs.History.{History, Places, begun, flies, places_of}
use Rattle.plan_check.specs.First.{first_of, first_below, unless, provided}
use Rattle.wan_model.specs.Rates.{rate_in}
use Rattle.retarget_plan.specs.Left.{is_whole, left_capacities, left_rates, left_targets, left_problem}
use Rattle.retarget_plan.specs.declared.unleft.Row.{Row}
use Rattle.retarget_plan.specs.declared.unleft.Row.TheVariants.{Capacities, OldRates, NewRates}
use Rattle.retarget_plan.specs.declared.unleft.Unleft.{Unleft}
use Rattle.retarget_plan.specs.declared.unleft.Unleft.TheVariants.{Flying, Partly, TooLarge, Memory}

-- item n, where an operation of it is in flight: the last one begun
abbrev pub flying_at : History → ℕ → Option Unleft
flying_at h n = provided (flies h n) (Flying n (begun h n))

abbrev pub first_flying : Problem → History → Option Unleft
first_flying p h = first_below (item_count p) (flying_at h)

-- tunnel t, where some of its entries are there and others aren't
abbrev pub partly_at : Problem → Plan → Places → ℕ → Option Unleft
partly_at p plan at t = unless (is_whole p plan at t) (Partly t)

abbrev pub first_partly : Problem → Plan → Places → Option Unleft
first_partly p plan at = first_below (length p.tunnels) (partly_at p plan at)

-- a number that is above its limit
abbrev pub large_capacity : List ℕ → ℕ → Option Unleft
large_capacity capacities l = unless (nat_le (slice_index capacities l) LARGEST_CAPACITY) (TooLarge Capacities l (slice_index capacities l))

abbrev pub large_rate : Row → List (Option ℕ) → ℕ → Option Unleft
large_rate row rates t = unless (nat_le (unwrap_or (rate_in rates t) 0) LARGEST_RATE) (TooLarge row t (unwrap_or (rate_in rates t) 0))

abbrev pub first_capacity : List ℕ → Option Unleft
first_capacity capacities = first_below (length capacities) (large_capacity capacities)

abbrev pub first_rate : Row → List (Option ℕ) → Option Unleft
first_rate row rates = first_below (length rates) (large_rate row rates)

-- the first of capacities and old rates, and then of new ones
abbrev pub first_of_old : List ℕ → List (Option ℕ) → Option Unleft
first_of_old capacities old = first_of (first_capacity capacities) (first_rate OldRates old)

abbrev pub first_large : List ℕ → List (Option ℕ) → List (Option ℕ) → Option Unleft
first_large capacities old new = first_of (first_of_old capacities old) (first_rate NewRates new)

abbrev pub large_left : Problem → Plan → Places → Option Unleft
large_left p plan at = first_large (left_capacities p plan at) (left_rates p plan at) (left_targets p plan at)

-- a tunnel of which some entries are there alone, else a number that is too large
abbrev pub partly_or_large : Problem → Plan → Places → Option Unleft
partly_or_large p plan at = first_of (first_partly p plan at) (large_left p plan at)

abbrev pub why_not_left : Problem → Plan → History → Option Unleft
why_not_left p plan h = first_of (first_flying p h) (partly_or_large p plan (places_of p h))

-- as many numbers as links and as tunnels
pub record AreRows (p : Problem) (capacities : List ℕ) (old new : List (Option ℕ)) : Type 0 where
  pub for_links : length capacities ≡ length p.links
  pub were : length old ≡ length p.tunnels
  pub become : length new ≡ length p.tunnels

-- the cause that is told is the one that was found; lack of memory says nothing
abbrev pub IsCause : Unleft → Option Unleft → Type 0
IsCause (Flying item operation) found = found ≡ Some (Flying item operation)
IsCause (Partly tunnel) found = found ≡ Some (Partly tunnel)
IsCause (TooLarge row place n) found = found ≡ Some (TooLarge row place n)
IsCause Memory found = Unit {0}

-- what is answered where this is what is left, unless a cause was found
abbrev pub IsLeftUnless : Option Unleft → Problem → Result Problem Unleft → Type 0
IsLeftUnless found wanted (Ok q) = (found ≡ None) × (q ≡ wanted)
IsLeftUnless found wanted (Err cause) = IsCause cause found

abbrev pub IsLeft : Problem → Plan → History → Result Problem Unleft → Type 0
IsLeft p plan h answer = IsLeftUnless (why_not_left p plan h) (left_problem p plan (places_of p h)) answer
