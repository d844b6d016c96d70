-- A network as it is copied with other rates, row by row: each row may be added, and what it leads to.
use Rattle.std.proofs.Common.{◌≡◌, ℕ, ◌+◌, ◌<◌, List, [], ◌∷◌, ◌++◌, length, map, take, Option, None, refl, sym, ap, ◌∙◌, subst, arith}
use Rattle.std.proofs.lemmas.List.{map_more, take_all}
use Rattle.rollout_rules.specs.Wan.{Problem, Tunnel, no_tunnel, switch_at, link_at, flow_at, tunnel_at, tunnel_of}
use Rattle.rollout_rules.specs.Network.{IsNetwork}
use Rattle.rollout_rules.specs.Building.{no_problem, with_switch, with_link, with_flow, with_tunnel, MayAddSwitch, MayAddLink, MayAddFlow, MayAddTunnel}
use Rattle.rollout_rules.proofs.Tunnels.{tunnels_of}
use Rattle.wan_model.specs.Fronts.{switched, linked, flowed, begun}
use Rattle.wan_model.specs.Rates.{rate_in, rated, with_rates, AreRates}
use Rattle.wan_model.specs.Sides.{rate_on}
use Rattle.wan_model.specs.declared.side.Side.{Side}
use Rattle.wan_model.proofs.Fronts.{may_add_next_switch, switch_is_added, switches_end, may_add_next_link, link_is_added, links_end, may_add_next_flow, flow_begins, flow_ends, flows_end, may_add_next_tunnel, tunnel_is_added}
use Rattle.wan_model.proofs.Rated.{rated-at, rated-is_network}

module _ (p : Problem) (net : IsNetwork p) where
  pub switch-may : (copy : Problem) (k : ℕ) (name : List ℕ) (table : ℕ) → k < length p.switches → copy ≡ switched p k → name ≡ (switch_at p k).name → table ≡ (switch_at p k).table → MayAddSwitch copy name table
  switch-may copy k name table lt front named sized = rw (front, named, sized) (may_add_next_switch p net k lt)

  pub switch-next : (copy next : Problem) (k : ℕ) (name : List ℕ) (table : ℕ) → k < length p.switches → copy ≡ switched p k → name ≡ (switch_at p k).name → table ≡ (switch_at p k).table → next ≡ with_switch copy name table → next ≡ switched p (k + 1)
  switch-next copy next k name table lt front named sized is = is ∙ rw (front, named, sized) (switch_is_added p net k lt)

  pub link-may : (copy : Problem) (k from to capacity : ℕ) → k < length p.links → copy ≡ linked p k → from ≡ (link_at p k).from → to ≡ (link_at p k).to → capacity ≡ (link_at p k).capacity → MayAddLink copy from to capacity
  link-may copy k from to capacity lt front begins ends holds = rw (front, begins, ends, holds) (may_add_next_link p net k lt)

  pub link-next : (copy next : Problem) (k from to capacity : ℕ) → k < length p.links → copy ≡ linked p k → from ≡ (link_at p k).from → to ≡ (link_at p k).to → capacity ≡ (link_at p k).capacity → next ≡ with_link copy from to capacity → next ≡ linked p (k + 1)
  link-next copy next k from to capacity lt front begins ends holds is = is ∙ rw (front, begins, ends, holds) (link_is_added p net k lt)

module _ (p : Problem) (old new : List (Option ℕ)) (net : IsNetwork p) (are_old : AreRates p old) (are_new : AreRates p new) where
  abbrev q : Problem
  q = with_rates p old new

  is_network : IsNetwork q
  is_network = rated-is_network p old new net are_old are_new

  -- before the first flow, and after the last
  pub first-flow : (copy : Problem) → copy ≡ linked p (length p.links) → copy ≡ flowed q 0
  first-flow copy is = is ∙ links_end q is_network

  pub last-flow : (copy : Problem) (n : ℕ) → n ≡ length p.flows → copy ≡ flowed q n → copy ≡ q
  last-flow copy n all is = is ∙ ap (flowed q) all ∙ flows_end q is_network

  module _ (f : ℕ) (lt : f < length p.flows) where
    pub flow-may : (copy : Problem) (name : List ℕ) → copy ≡ flowed q f → name ≡ (flow_at p f).name → MayAddFlow copy name
    flow-may copy name front named = rw (front, named) (may_add_next_flow q is_network f lt)

    pub flow-first : (copy next : Problem) (name : List ℕ) → copy ≡ flowed q f → name ≡ (flow_at p f).name → next ≡ with_flow copy name → next ≡ begun q f 0
    flow-first copy next name front named is = is ∙ rw (front, named) (flow_begins q is_network f lt)

    pub flow-last : (copy : Problem) (n : ℕ) → n ≡ (flow_at p f).tunnels → copy ≡ begun q f n → copy ≡ flowed q (f + 1)
    flow-last copy n all is = is ∙ ap (begun q f) all ∙ flow_ends q is_network f lt

    module _ (j t : ℕ) (few : j < tunnels_of p f) (at : t ≡ tunnel_of p f j) (inside : t < length p.tunnels) where
      row-is : tunnel_at q (tunnel_of p f j) ≡ rated p old new t
      row-is = ap (tunnel_at q) (sym at) ∙ rated-at p old new t inside

      pub tunnel-may : (copy : Problem) (path : List ℕ) (o n : Option ℕ) (width : ℕ) → copy ≡ begun q f j → path ≡ (tunnel_at p t).path → o ≡ rate_in old t → n ≡ rate_in new t → width ≡ (tunnel_at p t).width → MayAddTunnel copy path o n width
      tunnel-may copy path o n width front along was becomes wide =
          let may = subst (λ (u : Tunnel). MayAddTunnel (begun q f j) u.path u.old u.new u.width) row-is (may_add_next_tunnel q is_network f lt j few) in
          rw (front, along, was, becomes, wide) may

      pub tunnel-next : (copy next : Problem) (path : List ℕ) (o n : Option ℕ) (width : ℕ) → copy ≡ begun q f j → path ≡ (tunnel_at p t).path → o ≡ rate_in old t → n ≡ rate_in new t → width ≡ (tunnel_at p t).width → next ≡ with_tunnel copy path o n width → next ≡ begun q f (j + 1)
      tunnel-next copy next path o n width front along was becomes wide is =
          let added = subst (λ (u : Tunnel). with_tunnel (begun q f j) u.path u.old u.new u.width ≡ begun q f (j + 1)) row-is (tunnel_is_added q is_network f lt j few) in
          is ∙ rw (front, along, was, becomes, wide) added

-- one rate more of a split
pub rate-next : (p : Problem) (side : Side) (rates next : List (Option ℕ)) (t : ℕ) (rate : Option ℕ) → t < length p.tunnels → rates ≡ map (rate_on side) (take t p.tunnels) → rate ≡ rate_on side (tunnel_at p t) → next ≡ rates ++ rate ∷ [] → next ≡ map (rate_on side) (take (t + 1) p.tunnels)
rate-next p side rates next t rate lt so this is = is ∙ rw (so, this) (sym (map_more (rate_on side) p.tunnels t no_tunnel lt))

pub rates-all : (p : Problem) (side : Side) (rates : List (Option ℕ)) (n : ℕ) → length p.tunnels ≡ n → rates ≡ map (rate_on side) (take n p.tunnels) → rates ≡ map (rate_on side) p.tunnels
rates-all p side rates n all is = is ∙ ap (map (rate_on side)) (take_all n p.tunnels (omega (arith, all)))
