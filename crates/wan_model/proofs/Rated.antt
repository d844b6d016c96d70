-- A network with other rates is one still.
use Rattle.std.proofs.Common.{◌≡◌, ℕ, ◌+◌, ◌-◌, ◌<◌, List, length, map, slice_index, Option, None, sym, ap, ◌∙◌, subst, arith}
use Rattle.std.proofs.lemmas.List.{ext_get_or, length-map, get_or-map}
use Rattle.rollout_rules.specs.Sums.{list_below}
use Rattle.rollout_rules.specs.Wan.{Problem, Tunnel, no_tunnel, flow_at, tunnel_at, tunnel_of}
use Rattle.rollout_rules.specs.Network.{IsNetwork, IsPath, IsWidth, IsRate, IsTunnel}
use Rattle.rollout_rules.proofs.Rows.{list_below-length, list_below-at}
use Rattle.wan_model.specs.Rates.{rated, with_rates, AreRates}
use Rattle.wan_model.specs.Sides.{rate_on}
use Rattle.wan_model.specs.declared.side.Side.{Side}
use Rattle.wan_model.specs.declared.side.Side.TheVariants.{Old, New}

module _ (p : Problem) (old new : List (Option ℕ)) where
  abbrev q : Problem
  q = with_rates p old new

  pub rated-count : length q.tunnels ≡ length p.tunnels
  rated-count = list_below-length (length p.tunnels) (rated p old new)

  pub rated-at : (t : ℕ) → t < length p.tunnels → tunnel_at q t ≡ rated p old new t
  rated-at t lt = list_below-at (length p.tunnels) (rated p old new) t no_tunnel lt

  module _ (net : IsNetwork p) (are_old : AreRates p old) (are_new : AreRates p new) where
    path-rated : (path along : List ℕ) → IsPath p path along → IsPath q path along
    path-rated path along is = record {
      least = is.least;
      most = is.most;
      between = is.between;
      switches = is.switches;
      once = is.once;
      links = is.links;
      from = is.from;
      to = is.to;
    }

    width-rated : (width : ℕ) → IsWidth p width → IsWidth q width
    width-rated width is = record { some = is.some; most = is.most; plain = is.plain }

    tunnel-rated : (t : ℕ) → t < length p.tunnels → IsTunnel q t
    tunnel-rated t lt =
        let row = net.tunnels t lt in
        let same = rated-at t lt in
        let flow : (tunnel_at q t).flow ≡ (tunnel_at p t).flow = ap (λ (u : Tunnel). u.flow) same in
        let first = tunnel_of p (tunnel_at p t).flow 0 in
        let inside : first < length p.tunnels = omega (arith, row.behind, lt) in
        let head : tunnel_at q (tunnel_of q (tunnel_at q t).flow 0) ≡ rated p old new first =
        ap (λ f. tunnel_at q (tunnel_of p f 0)) flow ∙ rated-at first inside in
        record {
          flow = omega (arith, flow, row.flow);
          behind = omega (arith, row.behind, ap (λ f. (flow_at p f).first) flow);
          ahead = omega (arith, row.ahead, ap (λ f. (flow_at p f).first + (flow_at p f).tunnels) flow);
          path = subst (λ (u : Tunnel). IsPath q u.path u.links) (sym same) (path-rated _ _ row.path);
          ingress = ap (λ (u : Tunnel). slice_index u.path 0) same ∙ row.ingress ∙ sym (ap (λ (u : Tunnel). slice_index u.path 0) head);
          egress = ap (λ (u : Tunnel). slice_index u.path (length u.path - 1)) same ∙ row.egress ∙ sym (ap (λ (u : Tunnel). slice_index u.path (length u.path - 1)) head);
          width = subst (λ (u : Tunnel). IsWidth q u.width) (sym same) (width-rated _ row.width);
          old = subst (λ (u : Tunnel). IsRate u.old) (sym same) (are_old.within t lt);
          new = subst (λ (u : Tunnel). IsRate u.new) (sym same) (are_new.within t lt);
        }

    pub rated-is_network : IsNetwork q
    rated-is_network = record {
      format = net.format;
      switches = record {
        count = net.switches.count;
        names = net.switches.names;
        tables = net.switches.tables;
        once = net.switches.once;
      };
      links = record {
        count = net.links.count;
        from = net.links.from;
        to = net.links.to;
        capacities = net.links.capacities;
        once = net.links.once;
      };
      flows = record {
        count = net.flows.count;
        names = net.flows.names;
        once = net.flows.once;
        few = net.flows.few;
        in_order = net.flows.in_order;
        all = rated-count ∙ net.flows.all;
      };
      few = omega (arith, net.few, rated-count);
      tunnels = λ t lt. tunnel-rated t (omega (arith, lt, rated-count));
    }

-- the rates of a split
pub split-rates : (p : Problem) (side : Side) → IsNetwork p → AreRates p (map (rate_on side) p.tunnels)
split-rates p side net = record {
  count = length-map p.tunnels (rate_on side);
  within = λ t lt. subst IsRate (sym (get_or-map (rate_on side) p.tunnels t no_tunnel None lt)) (is_rate side t lt);
}
  where
    is_rate : (side : Side) (t : ℕ) → t < length p.tunnels → IsRate (rate_on side (tunnel_at p t))
    is_rate Old t lt = (net.tunnels t lt).old
    is_rate New t lt = (net.tunnels t lt).new

-- rows that stand for the tunnels one by one
pub rows-are : (p : Problem) (f : Tunnel → Tunnel) (old new : List (Option ℕ)) → ((t : ℕ) → t < length p.tunnels → rated p old new t ≡ f (tunnel_at p t)) → with_rates p old new ≡ record p { tunnels = map f p.tunnels }
rows-are p f old new each =
    ap (λ (ts : List Tunnel). record p { tunnels = ts })
    (ext_get_or no_tunnel (list_below (length p.tunnels) (rated p old new)) (map f p.tunnels) (rated-count p old new ∙ sym (length-map p.tunnels f))
    (λ t lt. let inside : t < length p.tunnels = omega (arith, lt, rated-count p old new) in
    rated-at p old new t inside ∙ each t inside ∙ sym (get_or-map f p.tunnels t no_tunnel no_tunnel inside)))
