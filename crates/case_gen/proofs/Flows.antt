-- A flow and both its tunnels may be added to a ring, and what they make of it.
use Rattle.std.proofs.Common.{◌≡◌, ℕ, zero, suc, ◌+◌, ◌-◌, ◌*◌, ◌%◌, ◌<◌, ◌≤◌, ◌==◌, Bool, true, ◌&&◌, ◌||◌, List, [], ◌∷◌, ◌++◌, length, get_or, set, slice_index, codes, decimal, Option, Some, None, IfSome, refl, sym, ap, ap₂, subst, ◌∙◌, eq-eqb, append_assoc, add-one, arith, length-append}
use Rattle.std.proofs.lemmas.Bool.{and_from}
use Rattle.std.proofs.lemmas.List.{get_or_push, length_push, set_at}
use Rattle.rollout_rules.specs.Building.{links_along, with_flow, with_one_more, with_tunnel, MayAddTunnel}
use Rattle.rollout_rules.specs.Network.{IsRate}
use Rattle.rollout_rules.specs.Wan.{Flow, Problem, Tunnel, hops, no_flow, no_tunnel, switch_of, tunnel_at}
use Rattle.case_gen.specs.Conditions.{AreRates, IsRing, IsTrip}
use Rattle.case_gen.specs.Rings.{first_tunnel, flow_named, flows_below, second_tunnel, trip_at, tunnel_along, tunnels_below, walk, walked}
use Rattle.case_gen.specs.Trips.{Rates, Trip}
use Rattle.case_gen.proofs.Roads.{path_at, path_long, walk-IsRoute, walk-along}

-- the last flow of several, and what becomes of it with one tunnel more
module _ (fs : List Flow) (f : Flow) where
  last_at : length (fs ++ f ∷ []) - 1 ≡ length fs
  last_at = omega (arith, length_push fs f)

  last_is : get_or (fs ++ f ∷ []) (length (fs ++ f ∷ []) - 1) no_flow ≡ f
  last_is = get_or_push fs f no_flow (length (fs ++ f ∷ []) - 1) (sym last_at)

  last_grows : set (fs ++ f ∷ []) (length (fs ++ f ∷ []) - 1) (with_one_more (get_or (fs ++ f ∷ []) (length (fs ++ f ∷ []) - 1) no_flow)) ≡ fs ++ with_one_more f ∷ []
  last_grows = ap₂ (λ i (row : Flow). set (fs ++ f ∷ []) i (with_one_more row)) last_at last_is ∙ set_at fs f [] (with_one_more f) (length fs) refl

-- the flows of a problem but for the last one, that one, and the tunnels
abbrev with_last : Problem → List Flow → Flow → List Tunnel → Problem
with_last q fs f ts = record q { flows = fs ++ f ∷ []; tunnels = ts }

-- a ring is one with whatever flows and tunnels
ring_stays : (n : ℕ) (q : Problem) (fs : List Flow) (f : Flow) (ts : List Tunnel) → IsRing n q → IsRing n (with_last q fs f ts)
ring_stays n q fs f ts ring = record {
  least = ring.least;
  most = ring.most;
  plain = ring.plain;
  all = ring.all;
  count = ring.count;
  from = ring.from;
  to = ring.to;
}

-- a rate up to 1,000 is a rate
rate_fits : (r : Option ℕ) → IfSome r (λ n. n ≤ 1_000) → IsRate r
rate_fits None is = is
rate_fits (Some n) is = omega (arith, is)

-- whether a path has the ends of the first tunnel of a flow
abbrev ends_as : Problem → List ℕ → Flow → Bool
ends_as p path f =
    (f.tunnels == 0)
    || ((slice_index path 0 == switch_of p (f.first + 0) 0)
    && (slice_index path (length path - 1) == switch_of p (f.first + 0) (hops p (f.first + 0) - 1)))

module _ (n : ℕ) (q : Problem) (ring : IsRing n q) (fs : List Flow) (f : Flow) (ts : List Tunnel) (start step count : ℕ) (rates : Rates)
    (starts : start < n) (some : 0 < step) (low : step ≤ 2) (short : count * step < n) (most : count ≤ 16) where
  abbrev here : Problem
  here = with_last q fs f ts

  walk_added : with_tunnel here (walk n start step count) rates.old rates.new 1 ≡ with_last q fs (with_one_more f) (ts ++ tunnel_along n (length fs) start step count rates ∷ [])
  walk_added =
      ap₂ (λ (rows : List Flow) (k : ℕ). record q { flows = rows; tunnels = ts ++ record { flow = k; path = walk n start step count; links = links_along here (walk n start step count); width = 1; old = rates.old; new = rates.new } ∷ [] }) (last_grows fs f) (last_at fs f)
      ∙ ap (λ (along : List ℕ). record q { flows = fs ++ with_one_more f ∷ []; tunnels = ts ++ record { flow = length fs; path = walk n start step count; links = along; width = 1; old = rates.old; new = rates.new } ∷ [] })
      (walk-along n here (ring_stays n q fs f ts ring) start step count starts some low short most)

  may_walk : f.tunnels < 16 → length ts < 4_096 → 1 ≤ count → AreRates rates → ends_as here (walk n start step count) f ≡ true → MayAddTunnel here (walk n start step count) rates.old rates.new 1
  may_walk few room goes are ends = record {
    some_flow = omega (arith, length_push fs f);
    few = omega (arith, ap (λ (row : Flow). row.tunnels) (last_is fs f));
    room = room;
    route = walk-IsRoute n here (ring_stays n q fs f ts ring) start step count starts some low short most;
    least = omega (arith, path_long n here (ring_stays n q fs f ts ring) start step count starts some low short most);
    ends = ap (ends_as here (walk n start step count)) (last_is fs f) ∙ ends;
    old = rate_fits rates.old are.was;
    new = rate_fits rates.new are.becomes;
    width = record { some = omega arith; most = omega arith; plain = λ e. refl };
  }

module _ (n number : ℕ) (q : Problem) (trip : Trip) (ring : IsRing n q) (few : number < 1_024) (count : length q.flows ≡ number) (twice : length q.tunnels ≡ 2 * number) (is : IsTrip n trip) where
  -- the flow with so many tunnels, its tunnels, and the problem as they come to it
  abbrev flow_with : ℕ → Flow
  flow_with k = record { name = codes "f" ++ decimal number; first = length q.tunnels; tunnels = k }

  abbrev single : Tunnel
  single = first_tunnel n (length q.flows) trip

  abbrev double : Tunnel
  double = second_tunnel n (length q.flows) trip

  abbrev begun : Problem
  begun = with_last q q.flows (flow_with 0) q.tunnels

  abbrev half_way : Problem
  half_way = with_last q q.flows (flow_with 1) (q.tunnels ++ single ∷ [])

  abbrev done : Problem
  done = with_last q q.flows (flow_with 2) ((q.tunnels ++ single ∷ []) ++ double ∷ [])

  to_half_way : with_tunnel begun (walk n trip.start 1 (2 * trip.steps)) trip.first.old trip.first.new 1 ≡ half_way
  to_half_way = walk_added n q ring q.flows (flow_with 0) q.tunnels trip.start 1 (2 * trip.steps) trip.first is.starts (omega arith) (omega arith) (omega (arith, is.short)) (omega (arith, is.few))

  to_done : with_tunnel half_way (walk n trip.start 2 trip.steps) trip.second.old trip.second.new 1 ≡ done
  to_done = walk_added n q ring q.flows (flow_with 1) (q.tunnels ++ single ∷ []) trip.start 2 trip.steps trip.second is.starts (omega arith) (omega arith) (omega (arith, is.short)) (omega (arith, is.few))

  is_done : done ≡ record q { flows = q.flows ++ flow_named number ∷ []; tunnels = q.tunnels ++ first_tunnel n number trip ∷ second_tunnel n number trip ∷ [] }
  is_done =
      ap₂ (λ (first : ℕ) (flow : ℕ). record q { flows = q.flows ++ record { name = codes "f" ++ decimal number; first = first; tunnels = 2 } ∷ []; tunnels = (q.tunnels ++ first_tunnel n flow trip ∷ []) ++ second_tunnel n flow trip ∷ [] }) twice count
      ∙ ap (λ (rows : List Tunnel). record q { flows = q.flows ++ flow_named number ∷ []; tunnels = rows }) (append_assoc q.tunnels (first_tunnel n number trip ∷ []) (second_tunnel n number trip ∷ []))

  may_begin : MayAddTunnel begun (walk n trip.start 1 (2 * trip.steps)) trip.first.old trip.first.new 1
  may_begin = may_walk n q ring q.flows (flow_with 0) q.tunnels trip.start 1 (2 * trip.steps) trip.first is.starts (omega arith) (omega arith) (omega (arith, is.short)) (omega (arith, is.few))
      (omega arith) (omega arith) (omega (arith, is.goes)) is.single refl

  -- the first tunnel of the flow, by its number
  head : tunnel_at half_way (length q.tunnels + 0) ≡ single
  head = get_or_push q.tunnels single no_tunnel (length q.tunnels + 0) (omega arith)

  single_long : length single.path ≡ 2 * trip.steps + 1
  single_long = path_long n q ring trip.start 1 (2 * trip.steps) is.starts (omega arith) (omega arith) (omega (arith, is.short)) (omega (arith, is.few))

  single_at : (h : ℕ) → h < 2 * trip.steps + 1 → slice_index single.path h ≡ walked n trip.start 1 h
  single_at = path_at n q ring trip.start 1 (2 * trip.steps) is.starts (omega arith) (omega arith) (omega (arith, is.short)) (omega (arith, is.few))

  double_long : length double.path ≡ trip.steps + 1
  double_long = path_long n q ring trip.start 2 trip.steps is.starts (omega arith) (omega arith) (omega (arith, is.short)) (omega (arith, is.few))

  double_at : (h : ℕ) → h < trip.steps + 1 → slice_index double.path h ≡ walked n trip.start 2 h
  double_at = path_at n q ring trip.start 2 trip.steps is.starts (omega arith) (omega arith) (omega (arith, is.short)) (omega (arith, is.few))

  same_start : slice_index double.path 0 ≡ slice_index (tunnel_at half_way (length q.tunnels + 0)).path 0
  same_start =
      let nothing : trip.start + 0 * 2 ≡ trip.start + 0 * 1 = omega arith in
      double_at 0 (omega arith) ∙ ap (λ x. x % n) nothing ∙ sym (single_at 0 (omega arith)) ∙ sym (ap (λ (t : Tunnel). slice_index t.path 0) head)

  same_end : slice_index double.path (length double.path - 1) ≡ slice_index (tunnel_at half_way (length q.tunnels + 0)).path (length (tunnel_at half_way (length q.tunnels + 0)).path - 1)
  same_end =
      let twice_as_far : trip.start + trip.steps * 2 ≡ trip.start + 2 * trip.steps * 1 = omega arith in
      let double_end : length double.path - 1 ≡ trip.steps = omega (arith, double_long) in
      let single_end : length single.path - 1 ≡ 2 * trip.steps = omega (arith, single_long) in
      ap (slice_index double.path) double_end
      ∙ double_at trip.steps (omega arith)
      ∙ ap (λ x. x % n) twice_as_far
      ∙ sym (single_at (2 * trip.steps) (omega arith))
      ∙ sym (ap (slice_index single.path) single_end)
      ∙ sym (ap (λ (t : Tunnel). slice_index t.path (length t.path - 1)) head)

  may_go_on : MayAddTunnel half_way (walk n trip.start 2 trip.steps) trip.second.old trip.second.new 1
  may_go_on = may_walk n q ring q.flows (flow_with 1) (q.tunnels ++ single ∷ []) trip.start 2 trip.steps trip.second is.starts (omega arith) (omega arith) (omega (arith, is.short)) (omega (arith, is.few))
      (omega arith) (omega (arith, length_push q.tunnels single)) (omega (arith, is.goes)) is.double
      (and_from (slice_index double.path 0 == slice_index (tunnel_at half_way (length q.tunnels + 0)).path 0)
      (slice_index double.path (length double.path - 1) == slice_index (tunnel_at half_way (length q.tunnels + 0)).path (length (tunnel_at half_way (length q.tunnels + 0)).path - 1))
      (eq-eqb _ _ same_start) (eq-eqb _ _ same_end))

  -- the same of problems as they are made one from the other
  module _ (name : List ℕ) (p1 : Problem) (named : name ≡ codes "f" ++ decimal number) (one : p1 ≡ with_flow q name) where
    is_begun : p1 ≡ begun
    is_begun = one ∙ ap (with_flow q) named

    module _ (path : List ℕ) (goes : path ≡ walk n trip.start 1 (2 * trip.steps)) where
      pub may_single : MayAddTunnel p1 path trip.first.old trip.first.new 1
      may_single =
          subst (λ (r : Problem). MayAddTunnel r path trip.first.old trip.first.new 1) (sym is_begun)
          (subst (λ (way : List ℕ). MayAddTunnel begun way trip.first.old trip.first.new 1) (sym goes) may_begin)

      module _ (p2 : Problem) (two : p2 ≡ with_tunnel p1 path trip.first.old trip.first.new 1) where
        is_half_way : p2 ≡ half_way
        is_half_way = two ∙ ap₂ (λ (r : Problem) (way : List ℕ). with_tunnel r way trip.first.old trip.first.new 1) is_begun goes ∙ to_half_way

        module _ (way : List ℕ) (leads : way ≡ walk n trip.start 2 trip.steps) where
          pub may_double : MayAddTunnel p2 way trip.second.old trip.second.new 1
          may_double =
              subst (λ (r : Problem). MayAddTunnel r way trip.second.old trip.second.new 1) (sym is_half_way)
              (subst (λ (w : List ℕ). MayAddTunnel half_way w trip.second.old trip.second.new 1) (sym leads) may_go_on)

          pub flow_added : (p3 : Problem) → p3 ≡ with_tunnel p2 way trip.second.old trip.second.new 1
              → p3 ≡ record q { flows = q.flows ++ flow_named number ∷ []; tunnels = q.tunnels ++ first_tunnel n number trip ∷ second_tunnel n number trip ∷ [] }
          flow_added p3 three = three ∙ ap₂ (λ (r : Problem) (w : List ℕ). with_tunnel r w trip.second.old trip.second.new 1) is_half_way leads ∙ to_done ∙ is_done

-- the flows and tunnels of no trip, and of one more
pub flows_at_first : (n : ℕ) (trips : List Trip) (q : Problem) → q.flows ≡ [] → q.tunnels ≡ [] → q ≡ record q { flows = flows_below 0; tunnels = tunnels_below n trips 0 }
unfolding flows_below tunnels_below
flows_at_first n trips q none nothing = ap₂ (λ (rows : List Flow) (ts : List Tunnel). record q { flows = rows; tunnels = ts }) none nothing

one_more_flow : (f : ℕ) → flows_below f ++ flow_named f ∷ [] ≡ flows_below (f + 1)
unfolding flows_below
one_more_flow f = rw (add-one f) refl

two_more_tunnels : (n f : ℕ) (trips : List Trip) → tunnels_below n trips f ++ first_tunnel n f (trip_at trips f) ∷ second_tunnel n f (trip_at trips f) ∷ [] ≡ tunnels_below n trips (f + 1)
unfolding tunnels_below
two_more_tunnels n f trips = rw (add-one f) refl

pub tunnels_count : (n f : ℕ) (trips : List Trip) → length (tunnels_below n trips f) ≡ 2 * f
unfolding tunnels_below
tunnels_count n zero trips = refl
tunnels_count n (suc f) trips =
    omega (arith, length-append (tunnels_below n trips f) (first_tunnel n f (trip_at trips f) ∷ second_tunnel n f (trip_at trips f) ∷ []), tunnels_count n f trips)

module _ (n f : ℕ) (trips : List Trip) (trip : Trip) (q p : Problem) (is : trip ≡ trip_at trips f) (so : p ≡ record q { flows = flows_below f; tunnels = tunnels_below n trips f }) where
  pub ring_so_far : IsRing n q → IsRing n p
  ring_so_far ring = subst (IsRing n) (sym so) (record {
    least = ring.least;
    most = ring.most;
    plain = ring.plain;
    all = ring.all;
    count = ring.count;
    from = ring.from;
    to = ring.to;
  })

  pub tunnels_so_far : length p.tunnels ≡ 2 * f
  tunnels_so_far = ap (λ (r : Problem). length r.tunnels) so ∙ tunnels_count n f trips

  pub flow_more : (r : Problem) → r ≡ record p { flows = p.flows ++ flow_named f ∷ []; tunnels = p.tunnels ++ first_tunnel n f trip ∷ second_tunnel n f trip ∷ [] }
      → r ≡ record q { flows = flows_below (f + 1); tunnels = tunnels_below n trips (f + 1) }
  flow_more r added =
      added
      ∙ ap₂ (λ (s : Problem) (t : Trip). record s { flows = s.flows ++ flow_named f ∷ []; tunnels = s.tunnels ++ first_tunnel n f t ∷ second_tunnel n f t ∷ [] }) so is
      ∙ ap₂ (λ (rows : List Flow) (ts : List Tunnel). record q { flows = rows; tunnels = ts }) (one_more_flow f) (two_more_tunnels n f trips)
