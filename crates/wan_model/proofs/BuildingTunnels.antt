-- A network stays a network as a tunnel is added to its last flow.
use Rattle.std.proofs.Common.{◌≡◌, ℕ, suc, ◌+◌, ◌-◌, ◌<◌, ◌≤◌, ◌≢◌, ◌⊎◌, inl, inr, ⊎_elim, List, length, slice_index, Option, refl, sym, ap, subst, ◌∙◌, eqb-true, get_or-set_same, get_or-set_other, length-set, arith}
use Rattle.std.proofs.lemmas.Bool.{and_parts, or_cases, cases_eq}
use Rattle.std.proofs.lemmas.List.{length_push}
use Rattle.rollout_rules.specs.Sums.{sum_below}
use Rattle.rollout_rules.specs.Wan.{Flow, Tunnel, Problem, no_flow, no_tunnel, flow_at, tunnel_at, tunnel_of, hops, switch_of}
use Rattle.rollout_rules.specs.declared.limits.TheConstants.{MOST_TUNNELS_OF_FLOW}
use Rattle.rollout_rules.specs.Network.{IsRate, IsWidth, IsPath, IsTunnel, AreFlows, IsNetwork}
use Rattle.rollout_rules.specs.Building.{with_tunnel, with_one_more, last_flow, links_along, MayAddTunnel}
use Rattle.wan_model.proofs.Pushes.{push_cases, push_below, push_last, set_keeps, sum_below_agrees}
use Rattle.wan_model.proofs.Growing.{Grows, path_stays, width_stays, tunnel_stays}
use Rattle.wan_model.proofs.Routes.{route_is_path}

abbrev added_tunnel : Problem → List ℕ → Option ℕ → Option ℕ → ℕ → Tunnel
added_tunnel p path old new width = record { flow = last_flow p; path = path; links = links_along p path; width = width; old = old; new = new }

module _ (p : Problem) (path : List ℕ) (old new : Option ℕ) (width : ℕ) (n : IsNetwork p) (may : MayAddTunnel p path old new width) where
  abbrev after : Problem
  after = with_tunnel p path old new width

  last_inside : last_flow p < length p.flows
  last_inside = omega (arith, may.some_flow)

  flows_long : length after.flows ≡ length p.flows
  flows_long = length-set p.flows (last_flow p) (with_one_more (flow_at p (last_flow p)))

  name_stays : (f : ℕ) → (flow_at after f).name ≡ (flow_at p f).name
  name_stays f = set_keeps (λ (g : Flow). g.name) p.flows (last_flow p) _ no_flow last_inside refl f

  first_stays : (f : ℕ) → (flow_at after f).first ≡ (flow_at p f).first
  first_stays f = set_keeps (λ (g : Flow). g.first) p.flows (last_flow p) _ no_flow last_inside refl f

  last_grows : (flow_at after (last_flow p)).tunnels ≡ (flow_at p (last_flow p)).tunnels + 1
  last_grows = ap (λ g. g.tunnels) (get_or-set_same p.flows (last_flow p) (with_one_more (flow_at p (last_flow p))) no_flow last_inside)

  others_stay : (f : ℕ) → f ≢ last_flow p → (flow_at after f).tunnels ≡ (flow_at p f).tunnels
  others_stay f ne = ap (λ g. g.tunnels) (get_or-set_other p.flows (last_flow p) f (with_one_more (flow_at p (last_flow p))) no_flow ne)

  -- how many tunnels a flow has then
  flow_grows : (f : ℕ) → ((f ≡ last_flow p) × ((flow_at after f).tunnels ≡ (flow_at p f).tunnels + 1)) ⊎ ((flow_at after f).tunnels ≡ (flow_at p f).tunnels)
  flow_grows f =
      ⊎_elim
      (λ e. inl (e, ap (λ g. (flow_at after g).tunnels) e ∙ last_grows ∙ ap (λ g. (flow_at p g).tunnels + 1) (sym e)))
      (λ ne. inr (others_stay f ne))
      (cases_eq f (last_flow p))

  -- the sums over the flows before the last
  sums_stay : (f : ℕ) → f < length p.flows → sum_below f (λ g. (flow_at p g).tunnels) ≡ sum_below f (λ g. (flow_at after g).tunnels)
  sums_stay f inside = sum_below_agrees _ _ f (λ k below. let ne : k ≢ last_flow p = omega arith in sym (others_stay k ne))

  -- the tunnels are those of the flows before the last, and the last one's
  total : length p.tunnels ≡ sum_below (last_flow p) (λ g. (flow_at p g).tunnels) + (flow_at p (last_flow p)).tunnels
  total = n.flows.all ∙ ap (λ m. sum_below m (λ g. (flow_at p g).tunnels)) (let e : length p.flows ≡ suc (last_flow p) = omega (arith, may.some_flow) in e)

  with_tunnel-all : length after.tunnels ≡ sum_below (length after.flows) (λ g. (flow_at after g).tunnels)
  with_tunnel-all =
      let long : length after.flows ≡ suc (last_flow p) = omega (arith, flows_long, may.some_flow) in
      let sums = sums_stay (last_flow p) last_inside in
      let more : length after.tunnels ≡ sum_below (suc (last_flow p)) (λ g. (flow_at after g).tunnels) = omega (arith, length_push p.tunnels (added_tunnel p path old new width), total, sums, last_grows) in
      more ∙ ap (λ m. sum_below m (λ g. (flow_at after g).tunnels)) (sym long)

  with_tunnel-few : (f : ℕ) → f < length after.flows → (flow_at after f).tunnels ≤ MOST_TUNNELS_OF_FLOW
  with_tunnel-few f inside =
      ⊎_elim
      (λ e. omega (arith, e.1, ap (λ g. (flow_at p g).tunnels) e.0, may.few))
      (λ e. omega (arith, e, n.flows.few f (omega (arith, flows_long))))
      (flow_grows f)

  with_tunnel-AreFlows : AreFlows after
  with_tunnel-AreFlows = record {
    count = omega (arith, flows_long, n.flows.count);
    names = λ f inside. omega (arith, ap (λ m. length m) (name_stays f), n.flows.names f (omega (arith, flows_long)));
    once = λ f g in_f in_g e. n.flows.once f g (omega (arith, flows_long)) (omega (arith, flows_long)) (sym (name_stays f) ∙ e ∙ name_stays g);
    few = with_tunnel-few;
    in_order = λ f inside. let within : f < length p.flows = omega (arith, flows_long) in first_stays f ∙ n.flows.in_order f within ∙ sums_stay f within;
    all = with_tunnel-all;
  }

  with_tunnel-Grows : Grows p after
  with_tunnel-Grows = record {
    format = refl;
    switches = omega arith;
    links = omega arith;
    link = λ l inside. refl;
    flows = omega (arith, flows_long);
    first = λ f inside. first_stays f;
    more = λ f inside. ⊎_elim (λ e. omega (arith, e.1)) (λ e. omega (arith, e)) (flow_grows f);
    tunnel = push_below p.tunnels (added_tunnel p path old new width) no_tunnel;
  }

  -- the flow's first tunnel begins and ends as the path does
  record HasEnds (t : ℕ) : Type 0 where
    pub ingress : slice_index path 0 ≡ switch_of after t 0
    pub egress : slice_index path (length path - 1) ≡ switch_of after t (hops after t - 1)

  head_begins : (flow_at after (last_flow p)).first + (flow_at p (last_flow p)).tunnels ≡ length p.tunnels
  head_begins = omega (arith, first_stays (last_flow p), n.flows.in_order (last_flow p) last_inside, total)

  -- the first tunnel is the added one itself
  own_head : (flow_at p (last_flow p)).tunnels ≡ 0 → HasEnds (tunnel_of after (last_flow p) 0)
  own_head none =
      let here : tunnel_of after (last_flow p) 0 ≡ length p.tunnels = omega (arith, head_begins, none) in
      let is : tunnel_at after (tunnel_of after (last_flow p) 0) ≡ added_tunnel p path old new width = push_last p.tunnels _ no_tunnel _ here in
      record {
        ingress = sym (ap (λ u. slice_index u.path 0) is);
        egress = sym (ap (λ u. slice_index u.path (length u.path - 1)) is);
      }

  -- the first tunnel stood before
  old_head : (flow_at p (last_flow p)).tunnels ≢ 0 → HasEnds (tunnel_of after (last_flow p) 0)
  old_head some =
      let first = first_stays (last_flow p) in
      let begins : tunnel_of p (last_flow p) 0 < length p.tunnels = omega (arith, head_begins, first, some) in
      let is : tunnel_at after (tunnel_of after (last_flow p) 0) ≡ tunnel_at p (tunnel_of p (last_flow p) 0) = ap (λ f. tunnel_at after (f + 0)) first ∙ push_below p.tunnels _ no_tunnel _ begins in
      ⊎_elim
      (λ e. absurd (some (eqb-true _ _ e)))
      (λ e.
      let both = and_parts _ _ e in
      record {
        ingress = eqb-true _ _ both.0 ∙ sym (ap (λ u. slice_index u.path 0) is);
        egress = eqb-true _ _ both.1 ∙ sym (ap (λ u. slice_index u.path (length u.path - 1)) is);
      })
      (or_cases _ _ may.ends)

  head_ends : HasEnds (tunnel_of after (last_flow p) 0)
  head_ends = ⊎_elim own_head old_head (cases_eq (flow_at p (last_flow p)).tunnels 0)

  added-IsTunnel : (t : ℕ) → t ≡ length p.tunnels → IsTunnel after t
  added-IsTunnel t e =
      let is : tunnel_at after t ≡ added_tunnel p path old new width = push_last p.tunnels _ no_tunnel t e in
      let flow : (tunnel_at after t).flow ≡ last_flow p = ap (λ u. u.flow) is in
      let first : (flow_at after (tunnel_at after t).flow).first ≡ (flow_at after (last_flow p)).first = ap (λ f. (flow_at after f).first) flow in
      let size : (flow_at after (tunnel_at after t).flow).tunnels ≡ (flow_at after (last_flow p)).tunnels = ap (λ f. (flow_at after f).tunnels) flow in
      let way : IsPath p path (links_along p path) = route_is_path p path may.route may.least in
      record {
        flow = omega (arith, flow, last_inside, flows_long);
        behind = omega (arith, first, head_begins, e);
        ahead = omega (arith, first, size, head_begins, last_grows, e);
        path = subst (λ (u : Tunnel). IsPath after u.path u.links) (sym is) (path_stays p after with_tunnel-Grows _ _ way);
        ingress = ap (λ u. slice_index u.path 0) is ∙ head_ends.ingress ∙ ap (λ f. switch_of after (tunnel_of after f 0) 0) (sym flow);
        egress = ap (λ u. slice_index u.path (length u.path - 1)) is ∙ head_ends.egress ∙ ap (λ f. switch_of after (tunnel_of after f 0) (hops after (tunnel_of after f 0) - 1)) (sym flow);
        width = subst (λ (u : Tunnel). IsWidth after u.width) (sym is) (width_stays p after with_tunnel-Grows _ may.width);
        old = subst (λ (u : Tunnel). IsRate u.old) (sym is) may.old;
        new = subst (λ (u : Tunnel). IsRate u.new) (sym is) may.new;
      }

  pub with_tunnel-IsNetwork : IsNetwork after
  with_tunnel-IsNetwork = record {
    format = n.format;
    switches = record {
      count = n.switches.count;
      names = n.switches.names;
      tables = n.switches.tables;
      once = n.switches.once;
    };
    links = record {
      count = n.links.count;
      from = n.links.from;
      to = n.links.to;
      capacities = n.links.capacities;
      once = n.links.once;
    };
    flows = with_tunnel-AreFlows;
    few = omega (arith, length_push p.tunnels (added_tunnel p path old new width), may.room);
    tunnels = λ t inside.
        ⊎_elim
        (λ lt. tunnel_stays p after with_tunnel-Grows t lt (n.tunnels t lt))
        (λ e. added-IsTunnel t e)
        (push_cases p.tunnels _ t inside);
  }
