-- What is drawn makes a ring, and what is counted on it makes the case.
use Rattle.std.proofs.Common.{◌≡◌, ℕ, zero, suc, ◌-◌, ◌*◌, ◌<◌, ◌≤◌, Bool, nat_le, List, [], ◌∷◌, ◌++◌, length, replicate, get_or, slice_index, Option, Some, None, IfSome, unwrap_or, if◌then◌else◌, refl, sym, ap, ap₂, subst, ◌∙◌, inl, inr, leb-true, arith}
use Rattle.std.proofs.Math.Nat.{mod-lt}
use Rattle.std.proofs.lemmas.Bool.{cases_Bool, cases_eq, cases_lt}
use Rattle.std.proofs.lemmas.List.{get_or_append_left, get_or-append_right, get_or-replicate, length-replicate}
use Rattle.rand_pcg.specs.Lcg.{Lcg}
use Rattle.rand_pcg.specs.Pcg.{output_xsh_rr}
use Rattle.rollout_rules.specs.Sums.{list_below}
use Rattle.rollout_rules.specs.Wan.{Problem, Tunnel, new_rate, no_tunnel, old_rate}
use Rattle.rollout_rules.specs.declared.limits.TheConstants.{LARGEST_CAPACITY, LARGEST_TABLE}
use Rattle.rollout_rules.proofs.Rows.{list_below-at, list_below-length}
use Rattle.case_gen.specs.Cases.{bare_ring, capacity_for, case, fitted_ring, table_for}
use Rattle.case_gen.specs.Conditions.{AreCapacities, AreRates, AreTables, AreTrips, HasSmallRates, IsTrip}
use Rattle.case_gen.specs.Draws.{after_draws, drawn}
use Rattle.case_gen.specs.Rings.{first_tunnel, network, second_tunnel, trip_at, tunnels_below}
use Rattle.case_gen.specs.Trips.{Trip, most_steps, no_trip, rate_of, rates_drawn, trip_drawn, trips_drawn}
use Rattle.case_gen.proofs.Flows.{tunnels_count}
use Rattle.case_gen.proofs.Whole.{links_count, switches_count}

-- a draw is below its bound
draw_below : (draws : Lcg) (place below : ℕ) → 0 < below → drawn draws place below < below
unfolding drawn
draw_below draws place below some = mod-lt (output_xsh_rr (after_draws draws place).state) {m = below} some

rate_small : (r : ℕ) → IfSome (rate_of r) (λ n. n ≤ 1_000)
rate_small r = elim (cases_Bool (nat_le r 1_000)) as (λ _. IfSome (rate_of r) (λ n. n ≤ 1_000)) [
  | inl low ↦ subst (λ (b : Bool). IfSome (if b then Some r else None) (λ n. n ≤ 1_000)) (sym low) (leb-true r 1_000 low)
  | inr high ↦ subst (λ (b : Bool). IfSome (if b then Some r else None) (λ n. n ≤ 1_000)) (sym high) tt
]

rates-AreRates : (draws : Lcg) → AreRates (rates_drawn draws)
rates-AreRates draws = record { was = rate_small (drawn draws 0 1_101); becomes = rate_small (drawn (after_draws draws 1) 0 1_101) }

-- the steps of a trip: at least one, at most 8, and less than half of the ring
trip-IsTrip : (draws : Lcg) (n : ℕ) → 3 ≤ n → IsTrip n (trip_drawn draws n)
trip-IsTrip draws n three =
    let more : drawn draws 1 (most_steps n) < most_steps n = draw_below draws 1 (most_steps n) (omega arith) in
    record {
      starts = draw_below draws 0 n (omega arith);
      goes = omega arith;
      few = omega arith;
      short = omega arith;
      single = rates-AreRates (after_draws draws 2);
      double = rates-AreRates (after_draws draws 4);
    }

pub trips-AreTrips : (draws : Lcg) (n flows : ℕ) → 3 ≤ n → flows ≤ 1_024 → AreTrips n (trips_drawn draws n flows)
trips-AreTrips draws n flows three few = record {
  few = omega (arith, list_below-length flows (λ f. trip_drawn (after_draws draws (6 * f)) n));
  each = λ f lt.
      let below : f < flows = omega (arith, list_below-length flows (λ g. trip_drawn (after_draws draws (6 * g)) n)) in
      subst (IsTrip n) (sym (list_below-at flows (λ g. trip_drawn (after_draws draws (6 * g)) n) f no_trip below)) (trip-IsTrip (after_draws draws (6 * f)) n three);
}

-- what holds of both tunnels of each trip holds of each tunnel
each_tunnel : (P : Tunnel → Type 0) (n : ℕ) (trips : List Trip) (m : ℕ) → ((f : ℕ) → f < m → P (first_tunnel n f (trip_at trips f)) × P (second_tunnel n f (trip_at trips f)))
    → (t : ℕ) → t < length (tunnels_below n trips m) → P (get_or (tunnels_below n trips m) t no_tunnel)
unfolding tunnels_below
each_tunnel P n trips zero both t lt = absurd (omega arith)
each_tunnel P n trips (suc m) both t lt =
    let before = tunnels_below n trips m in
    let pair = first_tunnel n m (trip_at trips m) ∷ second_tunnel n m (trip_at trips m) ∷ [] in
    elim (cases_lt t (length before)) as (λ _. P (get_or (before ++ pair) t no_tunnel)) [
      | inl early ↦ subst P (sym (get_or_append_left before pair no_tunnel t early)) (each_tunnel P n trips m (λ f low. both f (omega arith)) t early)
      | inr late ↦
          let at : get_or (before ++ pair) t no_tunnel ≡ get_or pair (t - length before) no_tunnel = get_or-append_right before pair (length before) t no_tunnel refl (omega arith) in
          elim (cases_eq t (length before)) as (λ _. P (get_or (before ++ pair) t no_tunnel)) [
            | inl here ↦ let first : t - length before ≡ 0 = omega arith in subst P (sym (at ∙ ap (λ i. get_or pair i no_tunnel) first)) (both m (omega arith)).0
            | inr behind ↦ let second : t - length before ≡ 1 = omega (arith, tunnels_count n m trips, tunnels_count n (suc m) trips) in subst P (sym (at ∙ ap (λ i. get_or pair i no_tunnel) second)) (both m (omega arith)).1
          ]
    ]

small_unwrapped : (r : Option ℕ) → IfSome r (λ n. n ≤ 1_000) → unwrap_or r 0 ≤ 1_000
small_unwrapped None is = omega arith
small_unwrapped (Some n) is = is

network-HasSmallRates : (n : ℕ) (tables capacities : List ℕ) (trips : List Trip) → AreTrips n trips → HasSmallRates (network n tables capacities trips)
network-HasSmallRates n tables capacities trips are = record {
  was = each_tunnel (λ t. old_rate t ≤ 1_000) n trips (length trips) (λ f lt. (small_unwrapped (trip_at trips f).first.old (are.each f lt).single.was, small_unwrapped (trip_at trips f).second.old (are.each f lt).double.was));
  becomes = each_tunnel (λ t. new_rate t ≤ 1_000) n trips (length trips) (λ f lt. (small_unwrapped (trip_at trips f).first.new (are.each f lt).single.becomes, small_unwrapped (trip_at trips f).second.new (are.each f lt).double.becomes));
}

module _ (n : ℕ) (three : 3 ≤ n) (many : n ≤ 1_024) (trips : List Trip) (fit : AreTrips n trips) where
  -- the ring without tables and capacities
  module _ (tables capacities : List ℕ) (none : tables ≡ replicate n 0) (nothing : capacities ≡ replicate (2 * n) 0) where
    long : length tables ≡ n
    long = ap length none ∙ length-replicate {A = ℕ} n 0

    pub no_tables : AreTables tables
    no_tables = record {
      least = omega (arith, long);
      most = omega (arith, long);
      within = λ w lt. omega (arith, ap (λ ts. slice_index ts w) none, get_or-replicate {A = ℕ} n w 0 0 (omega (arith, long)));
    }

    pub no_capacities : AreCapacities (length tables) capacities
    no_capacities = record {
      count = omega (arith, ap length nothing, length-replicate {A = ℕ} (2 * n) 0, long);
      within = λ l lt. omega (arith, ap (λ cs. slice_index cs l) nothing, get_or-replicate {A = ℕ} (2 * n) l 0 0 (omega (arith, ap length nothing, length-replicate {A = ℕ} (2 * n) 0)));
    }

    pub trips_first : AreTrips (length tables) trips
    trips_first = subst (λ m. AreTrips m trips) (sym long) fit

    pub is_bare : (p : Problem) → p ≡ network (length tables) tables capacities trips → p ≡ bare_ring n trips
    is_bare p is = is ∙ ap (λ m. network m tables capacities trips) long ∙ ap₂ (λ ts cs. network n ts cs trips) none nothing

  -- the ring with what was counted on the bare one
  module _ (bare : Problem) (is : bare ≡ bare_ring n trips) where
    pub bare_plain : bare.format ≡ 1
    bare_plain = ap (λ (p : Problem). p.format) is

    pub bare_small : HasSmallRates bare
    bare_small = subst HasSmallRates (sym is) (network-HasSmallRates n (replicate n 0) (replicate (2 * n) 0) trips fit)

    bare_switches : length bare.switches ≡ n
    bare_switches = ap (λ (p : Problem). length p.switches) is ∙ switches_count (replicate n 0) n

    bare_links : length bare.links ≡ 2 * n
    bare_links = ap (λ (p : Problem). length p.links) is ∙ links_count n (replicate (2 * n) 0) (2 * n)

    module _ (tables : List ℕ) (counted : tables ≡ list_below (length bare.switches) (table_for bare)) where
      tables_are : tables ≡ list_below n (table_for (bare_ring n trips))
      tables_are = counted ∙ ap₂ (λ m (p : Problem). list_below m (table_for p)) bare_switches is

      tables_long : length tables ≡ n
      tables_long = ap length tables_are ∙ list_below-length n (table_for (bare_ring n trips))

      pub tables_fit : ((w : ℕ) → w < length tables → slice_index tables w ≤ LARGEST_TABLE) → AreTables tables
      tables_fit within = record {
        least = omega (arith, tables_long);
        most = omega (arith, tables_long);
        within = within;
      }

      pub trips_again : AreTrips (length tables) trips
      trips_again = subst (λ m. AreTrips m trips) (sym tables_long) fit

      module _ (k : ℕ) (capacities : List ℕ) (carried : capacities ≡ list_below (length bare.links) (capacity_for k bare)) where
        capacities_are : capacities ≡ list_below (2 * n) (capacity_for k (bare_ring n trips))
        capacities_are = carried ∙ ap₂ (λ m (p : Problem). list_below m (capacity_for k p)) bare_links is

        pub capacities_fit : ((l : ℕ) → l < length capacities → slice_index capacities l ≤ LARGEST_CAPACITY) → AreCapacities (length tables) capacities
        capacities_fit within = record {
          count = omega (arith, ap length capacities_are, list_below-length (2 * n) (capacity_for k (bare_ring n trips)), tables_long);
          within = within;
        }

        pub is_fitted : (p : Problem) → p ≡ network (length tables) tables capacities trips → p ≡ fitted_ring k n trips
        is_fitted p whole = whole ∙ ap (λ m. network m tables capacities trips) tables_long ∙ ap₂ (λ ts cs. network n ts cs trips) tables_are capacities_are

-- a ring that is fitted to the trips that were drawn is the case
pub is_case : (k n flows : ℕ) (draws : Lcg) (trips : List Trip) (p : Problem) → trips ≡ trips_drawn draws n flows → p ≡ fitted_ring k n trips → p ≡ case k n flows draws
unfolding case
is_case k n flows draws trips p are is = is ∙ ap (fitted_ring k n) are
