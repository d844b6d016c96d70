-- A network that is built again row by row: each of its rows may be added to its front, and leads to the next front.
use Rattle.std.proofs.Common.{◌≡◌, ℕ, zero, suc, ◌+◌, ◌-◌, ◌<◌, ◌≤◌, true, ◌==◌, List, [], ◌∷◌, ◌++◌, length, take, slice_index, slice_set, is_some, Some, unwrap_or, refl, sym, ap, ap₂, ◌∙◌, subst, arith}
use Rattle.std.proofs.lemmas.Bool.{or_left, or_right, and_from, eq-eqb}
use Rattle.std.proofs.lemmas.List.{take_more, get_or-take, get_or_at, set_at, length-take-le, length_push, take_all}
use Rattle.rollout_rules.specs.Sums.{sum_below}
use Rattle.rollout_rules.specs.Wan.{Problem, Switch, Link, Flow, Tunnel, no_switch, no_link, no_flow, no_tunnel, switch_at, link_at, flow_at, tunnel_at, tunnel_of, hops, switch_of}
use Rattle.rollout_rules.specs.Network.{IsNetwork, IsPath, IsTunnel}
use Rattle.rollout_rules.specs.Building.{find_link, links_along, last_flow, with_one_more, with_switch, with_link, with_flow, with_tunnel, has_ends, IsRoute, MayAddSwitch, MayAddLink, MayAddFlow, MayAddTunnel}
use Rattle.rollout_rules.proofs.Below.{sum_below-up}
use Rattle.rollout_rules.proofs.Tunnels.{tunnels_of, tunnel_of-below, flow-tunnel_of}
use Rattle.wan_model.specs.Fronts.{switched, linked, flowed, begun}
use Rattle.wan_model.proofs.Lookups.{switch_is_new, link_found, link_is_new, flow_is_new}

-- a problem with the switches and the links of p, in which a path of p is looked up
pub record HasNetwork (p q : Problem) : Type 0 where
  pub switches : q.switches ≡ p.switches
  pub links : q.links ≡ p.links

module _ (p q : Problem) (net : IsNetwork p) (has : HasNetwork p q) (path along : List ℕ) (is : IsPath p path along) where
  -- the link from the h-th switch of the path to the next is the h-th along it
  pub link_is_found : (h : ℕ) → h < length along → find_link q (slice_index path h) (slice_index path (suc h)) ≡ Some (slice_index along h)
  link_is_found h lt =
      let l = slice_index along h in
      let more : h + 1 ≡ suc h = omega arith in
      let there : find_link p (link_at p l).from (link_at p l).to ≡ find_link p (slice_index path h) (slice_index path (suc h)) =
      ap₂ (find_link p) (is.from h lt) (is.to h lt ∙ ap (slice_index path) more) in
      ap (λ ls. find_link (record p { links = ls }) (slice_index path h) (slice_index path (suc h))) has.links
      ∙ sym there ∙ link_found p l net.links (is.links h lt)

-- where each link of a path is found, the links along it are these
along_found : (q : Problem) (path along : List ℕ) → length along + 1 ≡ length path
    → ((h : ℕ) → h < length along → find_link q (slice_index path h) (slice_index path (suc h)) ≡ Some (slice_index along h)) → links_along q path ≡ along
along_found q [] along between found = absurd (omega arith)
along_found q (a ∷ []) [] between found = refl
along_found q (a ∷ []) (l ∷ along) between found = absurd (omega arith)
along_found q (a ∷ b ∷ path) [] between found = absurd (omega arith)
along_found q (a ∷ b ∷ path) (l ∷ along) between found =
    ap₂ (λ k ks. k ∷ ks) (ap (λ o. unwrap_or o 0) (found 0 (omega arith))) (along_found q (b ∷ path) along (omega arith) (λ h lt. found (suc h) (omega arith)))

pub links_are_found : (p q : Problem) → IsNetwork p → HasNetwork p q → (path along : List ℕ) → IsPath p path along → links_along q path ≡ along
links_are_found p q net has path along is = along_found q path along is.between (link_is_found p q net has path along is)

-- a path of p is a route there
path_is_route : (p q : Problem) → IsNetwork p → HasNetwork p q → (path along : List ℕ) → IsPath p path along → IsRoute q path
path_is_route p q net has path along is = record {
  most = is.most;
  switches = λ h inside. omega (arith, is.switches h inside, ap (λ (ss : List Switch). length ss) has.switches);
  once = is.once;
  joined = λ h inside.
      let more : h + 1 ≡ suc h = omega arith in
      let before : h < length along = omega (arith, inside, is.between) in
      ap is_some (ap (λ k. find_link q (slice_index path h) (slice_index path k)) more ∙ link_is_found p q net has path along is h before);
}

module _ (p : Problem) (net : IsNetwork p) (f : ℕ) (lt : f < length p.flows) where
  pub last_is : (j : ℕ) → last_flow (begun p f j) ≡ f
  last_is j =
      let row : Flow = record (flow_at p f) { tunnels = j } in
      omega (arith, length_push (take f p.flows) row, length-take-le f p.flows (omega arith))

  row_is : (j : ℕ) → flow_at (begun p f j) f ≡ record (flow_at p f) { tunnels = j }
  row_is j = get_or_at (take f p.flows) _ [] no_flow f (length-take-le f p.flows (omega arith))

  pub the_tunnel : (j : ℕ) → j < tunnels_of p f → IsTunnel p (tunnel_of p f j)
  the_tunnel j few = net.tunnels (tunnel_of p f j) (tunnel_of-below p f j net lt few)

  pub ends_are : (j : ℕ) → j < tunnels_of p f → has_ends (begun p f j) f (tunnel_at p (tunnel_of p f j)).path ≡ true
  ends_are zero few = or_left _ _ (ap (λ (g : Flow). g.tunnels == 0) (row_is 0))
  ends_are (suc i) few =
      let q = begun p f (suc i) in
      let row = the_tunnel (suc i) few in
      let flow = flow-tunnel_of p f (suc i) net lt few in
      let there : tunnel_at q (tunnel_of q f 0) ≡ tunnel_at p (tunnel_of p f 0) =
      ap (λ (g : Flow). tunnel_at q (g.first + 0)) (row_is (suc i)) ∙ get_or-take ((flow_at p f).first + suc i) p.tunnels ((flow_at p f).first + 0) no_tunnel (omega arith) in
      let ingress = row.ingress ∙ ap (λ g. switch_of p (tunnel_of p g 0) 0) flow ∙ sym (ap (λ (t : Tunnel). slice_index t.path 0) there) in
      let egress = row.egress ∙ ap (λ g. switch_of p (tunnel_of p g 0) (hops p (tunnel_of p g 0) - 1)) flow ∙ sym (ap (λ (t : Tunnel). slice_index t.path (length t.path - 1)) there) in
      or_right _ _ (and_from _ _ (eq-eqb _ _ ingress) (eq-eqb _ _ egress))

  pub has : (j : ℕ) → HasNetwork p (begun p f j)
  has j = record { switches = refl; links = refl }

  pub tunnel_is_added : (j : ℕ) → j < tunnels_of p f
      → with_tunnel (begun p f j) (tunnel_at p (tunnel_of p f j)).path (tunnel_at p (tunnel_of p f j)).old (tunnel_at p (tunnel_of p f j)).new (tunnel_at p (tunnel_of p f j)).width ≡ begun p f (j + 1)
  tunnel_is_added j few =
      let q = begun p f j in
      let t = tunnel_of p f j in
      let old_row : Flow = record (flow_at p f) { tunnels = j } in
      let new_row : Flow = record (flow_at p f) { tunnels = j + 1 } in
      let made : ℕ → List ℕ → Tunnel = λ g ls. record { flow = g; path = (tunnel_at p t).path; links = ls; width = (tunnel_at p t).width; old = (tunnel_at p t).old; new = (tunnel_at p t).new } in
      let built : List Flow → List Tunnel → Problem = λ fs ts. record p { flows = fs; tunnels = ts } in
      let flows : slice_set q.flows (last_flow q) (with_one_more (flow_at q (last_flow q))) ≡ take f p.flows ++ new_row ∷ [] =
      ap (λ g. slice_set q.flows g (with_one_more (flow_at q g))) (last_is j) ∙ ap (λ r. slice_set q.flows f (with_one_more r)) (row_is j)
      ∙ set_at (take f p.flows) old_row [] new_row f (length-take-le f p.flows (omega arith)) in
      let row : made (last_flow q) (links_along q (tunnel_at p t).path) ≡ tunnel_at p t =
      ap₂ made (last_is j ∙ sym (flow-tunnel_of p f j net lt few)) (links_are_found p q net (has j) (tunnel_at p t).path (tunnel_at p t).links (the_tunnel j few).path) in
      let more : t + 1 ≡ (flow_at p f).first + (j + 1) = omega arith in
      let tunnels : q.tunnels ++ made (last_flow q) (links_along q (tunnel_at p t).path) ∷ [] ≡ take ((flow_at p f).first + (j + 1)) p.tunnels =
      ap (λ r. q.tunnels ++ r ∷ []) row ∙ sym (take_more p.tunnels t no_tunnel (tunnel_of-below p f j net lt few)) ∙ ap (λ n. take n p.tunnels) more in
      ap₂ built flows tunnels

  -- the next tunnel may be added
  pub may_add_next_tunnel : (j : ℕ) → j < tunnels_of p f
      → MayAddTunnel (begun p f j) (tunnel_at p (tunnel_of p f j)).path (tunnel_at p (tunnel_of p f j)).old (tunnel_at p (tunnel_of p f j)).new (tunnel_at p (tunnel_of p f j)).width
  may_add_next_tunnel j few =
      let q = begun p f j in
      let t = tunnel_of p f j in
      let row = the_tunnel j few in
      let new_row : Flow = record (flow_at p f) { tunnels = j } in
      let standing = length_push (take f p.flows) new_row in
      let below = tunnel_of-below p f j net lt few in
      let before : length q.tunnels ≡ (flow_at p f).first + j = length-take-le ((flow_at p f).first + j) p.tunnels (omega (arith, below)) in
      let count : (flow_at q (last_flow q)).tunnels ≡ j = ap (λ g. (flow_at q g).tunnels) (last_is j) ∙ ap (λ (g : Flow). g.tunnels) (row_is j) in
      record {
        some_flow = omega (arith, standing);
        few = omega (arith, count, few, net.flows.few f lt);
        room = omega (arith, before, below, net.few);
        route = route_of (begun p f j) (has j) row.path;
        least = row.path.least;
        ends = ap (λ g. has_ends q g (tunnel_at p t).path) (last_is j) ∙ ends_are j few;
        old = row.old;
        new = row.new;
        width = record { some = row.width.some; most = row.width.most; plain = row.width.plain };
      }
    where
      route_of : (q : Problem) → HasNetwork p q → IsPath p (tunnel_at p (tunnel_of p f j)).path (tunnel_at p (tunnel_of p f j)).links → IsRoute q (tunnel_at p (tunnel_of p f j)).path
      route_of q same is = path_is_route p q net same (tunnel_at p (tunnel_of p f j)).path (tunnel_at p (tunnel_of p f j)).links is

module _ (p : Problem) (net : IsNetwork p) where
  -- the next switch, link and flow may be added, and what they lead to
  pub may_add_next_switch : (k : ℕ) → k < length p.switches → MayAddSwitch (switched p k) (switch_at p k).name (switch_at p k).table
  may_add_next_switch k lt = record {
    room = omega (arith, length-take-le k p.switches (omega (arith, lt)), lt, net.switches.count);
    short = net.switches.names k lt;
    fresh = switch_is_new p k net.switches lt;
    within = net.switches.tables k lt;
  }

  pub switch_is_added : (k : ℕ) → k < length p.switches → with_switch (switched p k) (switch_at p k).name (switch_at p k).table ≡ switched p (k + 1)
  switch_is_added k lt =
      let built : List Switch → Problem = λ ss. record { format = p.format; switches = ss; links = []; flows = []; tunnels = [] } in
      ap built (sym (take_more p.switches k no_switch lt))

  pub may_add_next_link : (k : ℕ) → k < length p.links → MayAddLink (linked p k) (link_at p k).from (link_at p k).to (link_at p k).capacity
  may_add_next_link k lt = record {
    room = omega (arith, length-take-le k p.links (omega (arith, lt)), lt, net.links.count);
    begins = net.links.from k lt;
    ends = net.links.to k lt;
    fresh = link_is_new p k net.links lt;
    within = net.links.capacities k lt;
  }

  pub link_is_added : (k : ℕ) → k < length p.links → with_link (linked p k) (link_at p k).from (link_at p k).to (link_at p k).capacity ≡ linked p (k + 1)
  link_is_added k lt =
      let built : List Link → Problem = λ ls. record { format = p.format; switches = p.switches; links = ls; flows = []; tunnels = [] } in
      ap built (sym (take_more p.links k no_link lt))

  pub may_add_next_flow : (f : ℕ) → f < length p.flows → MayAddFlow (flowed p f) (flow_at p f).name
  may_add_next_flow f lt = record {
    room = omega (arith, length-take-le f p.flows (omega (arith, lt)), lt, net.flows.count);
    short = net.flows.names f lt;
    fresh = flow_is_new p f net.flows lt;
  }

  pub flow_begins : (f : ℕ) → f < length p.flows → with_flow (flowed p f) (flow_at p f).name ≡ begun p f 0
  flow_begins f lt =
      let first = net.flows.in_order f lt in
      let sum = sum_below f (tunnels_of p) in
      let inside : sum ≤ length p.tunnels = omega (arith, net.flows.all, sum_below-up f (length p.flows) (tunnels_of p) (omega arith)) in
      let len : length (take sum p.tunnels) ≡ (flow_at p f).first = length-take-le sum p.tunnels inside ∙ sym first in
      let none : sum ≡ (flow_at p f).first + 0 = omega arith in
      let built : ℕ → ℕ → Problem = λ n m. record p { flows = take f p.flows ++ record { name = (flow_at p f).name; first = n; tunnels = 0 } ∷ []; tunnels = take m p.tunnels } in
      ap₂ built len none

  pub flow_ends : (f : ℕ) → f < length p.flows → begun p f (tunnels_of p f) ≡ flowed p (f + 1)
  flow_ends f lt =
      let first = net.flows.in_order f lt in
      let more : f + 1 ≡ suc f = omega arith in
      let built : List Flow → ℕ → Problem = λ fs n. record p { flows = fs; tunnels = take n p.tunnels } in
      let sum : (flow_at p f).first + tunnels_of p f ≡ sum_below (f + 1) (tunnels_of p) = ap (λ n. n + tunnels_of p f) first ∙ ap (λ n. sum_below n (tunnels_of p)) (sym more) in
      ap₂ built (sym (take_more p.flows f no_flow lt)) sum

  -- with all switches there is no link yet, with all links no flow, and with all flows it is the network
  pub switches_end : switched p (length p.switches) ≡ linked p 0
  switches_end =
      let built : List Switch → Problem = λ ss. record { format = p.format; switches = ss; links = []; flows = []; tunnels = [] } in
      ap built (take_all (length p.switches) p.switches (omega arith))

  pub links_end : linked p (length p.links) ≡ flowed p 0
  links_end =
      let built : List Link → Problem = λ ls. record { format = p.format; switches = p.switches; links = ls; flows = []; tunnels = [] } in
      ap built (take_all (length p.links) p.links (omega arith))

  pub flows_end : flowed p (length p.flows) ≡ p
  flows_end =
      let built : List Flow → List Tunnel → Problem = λ fs ts. record p { flows = fs; tunnels = ts } in
      ap₂ built (take_all (length p.flows) p.flows (omega arith)) (take_all (sum_below (length p.flows) (tunnels_of p)) p.tunnels (omega (arith, net.flows.all)))
