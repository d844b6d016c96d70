-- A network on a ring, made of its switches, its links and its flows.
use Rattle.std.proofs.Common.{◌≡◌, ℕ, ◌*◌, List, [], length, slice_index, refl, sym, ap, subst, ◌∙◌}
use Rattle.rollout_rules.specs.Building.{no_problem}
use Rattle.rollout_rules.specs.Wan.{Link, Problem, no_link}
use Rattle.rollout_rules.proofs.Rows.{list_below-at, list_below-length}
use Rattle.case_gen.specs.Conditions.{AreTables, IsRing}
use Rattle.case_gen.specs.Rings.{flows_below, link_with, links_below, network, switch_with, switches_below, tunnels_below}
use Rattle.case_gen.specs.Trips.{Trip}

pub switches_count : (tables : List ℕ) (n : ℕ) → length (switches_below tables n) ≡ n
unfolding switches_below
switches_count tables n = list_below-length n (λ v. switch_with v (slice_index tables v))

pub links_count : (n : ℕ) (capacities : List ℕ) (l : ℕ) → length (links_below n capacities l) ≡ l
unfolding links_below
links_count n capacities l = list_below-length l (λ k. link_with n k (slice_index capacities k))

module _ (tables capacities : List ℕ) (trips : List Trip) where
  abbrev n : ℕ
  n = length tables

  -- the switches alone, and with the links
  abbrev switches_alone : Problem
  switches_alone = record no_problem { switches = switches_below tables n }

  abbrev linked : Problem
  linked = record no_problem { switches = switches_below tables n; links = links_below n capacities (2 * n) }

  linked-IsRing : AreTables tables → IsRing n linked
  unfolding links_below
  linked-IsRing are = record {
    least = are.least;
    most = are.most;
    plain = refl;
    all = switches_count tables n;
    count = links_count n capacities (2 * n);
    from = λ l lt. ap (λ (k : Link). k.from) (list_below-at (2 * n) (λ k. link_with n k (slice_index capacities k)) l no_link lt);
    to = λ l lt. ap (λ (k : Link). k.to) (list_below-at (2 * n) (λ k. link_with n k (slice_index capacities k)) l no_link lt);
  }

  module _ (p : Problem) (one : p ≡ switches_alone) where
    pub no_links_yet : p.links ≡ []
    no_links_yet = ap (λ (q : Problem). q.links) one

    pub all_switches : length p.switches ≡ n
    all_switches = ap (λ (q : Problem). length q.switches) one ∙ switches_count tables n

    module _ (q : Problem) (two : q ≡ record p { links = links_below n capacities (2 * n) }) where
      is_linked : q ≡ linked
      is_linked = two ∙ ap (λ (r : Problem). record r { links = links_below n capacities (2 * n) }) one

      pub is_ring : AreTables tables → IsRing n q
      is_ring are = subst (IsRing n) (sym is_linked) (linked-IsRing are)

      pub no_flows_yet : q.flows ≡ []
      no_flows_yet = ap (λ (r : Problem). r.flows) is_linked

      pub no_tunnels_yet : q.tunnels ≡ []
      no_tunnels_yet = ap (λ (r : Problem). r.tunnels) is_linked

      pub is_network : (r : Problem) → r ≡ record q { flows = flows_below (length trips); tunnels = tunnels_below n trips (length trips) } → r ≡ network n tables capacities trips
      is_network r three = three ∙ ap (λ (s : Problem). record s { flows = flows_below (length trips); tunnels = tunnels_below n trips (length trips) }) is_linked
