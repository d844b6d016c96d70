-- With other rates a network is one still.
use Rattle.std.proofs.Common.{◌≡◌, ℕ, ◌+◌, ◌-◌, ◌<◌, List, length, slice_index, sym, ap, ◌∙◌, subst, arith}
use Rattle.rollout_rules.specs.Wan.{Problem, Tunnel, flow_at, tunnel_at, tunnel_of}
use Rattle.rollout_rules.specs.Network.{IsNetwork, IsPath, IsWidth, IsRate, IsTunnel}
use Rattle.rollback_plan.specs.Turning.{turned, back_problem}
use Rattle.rollback_plan.proofs.Alike.{tunnel-turned, tunnels-turned}

module _ (p : Problem) (net : IsNetwork p) where
  abbrev q : Problem
  q = back_problem p

  path-back : (path along : List ℕ) → IsPath p path along → IsPath q path along
  path-back path along is = record {
    least = is.least;
    most = is.most;
    between = is.between;
    switches = is.switches;
    once = is.once;
    links = is.links;
    from = is.from;
    to = is.to;
  }

  width-back : (width : ℕ) → IsWidth p width → IsWidth q width
  width-back width is = record { some = is.some; most = is.most; plain = is.plain }

  tunnel-back : (t : ℕ) → t < length p.tunnels → IsTunnel q t
  tunnel-back t lt =
      let row = net.tunnels t lt in
      let same = tunnel-turned p t in
      let flow : (tunnel_at q t).flow ≡ (tunnel_at p t).flow = ap (λ (u : Tunnel). u.flow) same in
      let first : tunnel_of q (tunnel_at q t).flow 0 ≡ tunnel_of p (tunnel_at p t).flow 0 = ap (λ f. tunnel_of p f 0) flow in
      let head : tunnel_at q (tunnel_of q (tunnel_at q t).flow 0) ≡ turned (tunnel_at p (tunnel_of p (tunnel_at p t).flow 0)) =
      ap (tunnel_at q) first ∙ tunnel-turned p (tunnel_of p (tunnel_at p t).flow 0) in
      record {
        flow = omega (arith, flow, row.flow);
        behind = omega (arith, row.behind, ap (λ f. (flow_at p f).first) flow);
        ahead = omega (arith, row.ahead, ap (λ f. (flow_at p f).first + (flow_at p f).tunnels) flow);
        path = subst (λ (u : Tunnel). IsPath q u.path u.links) (sym same) (path-back _ _ row.path);
        ingress = ap (λ (u : Tunnel). slice_index u.path 0) same ∙ row.ingress ∙ sym (ap (λ (u : Tunnel). slice_index u.path 0) head);
        egress = ap (λ (u : Tunnel). slice_index u.path (length u.path - 1)) same ∙ row.egress ∙ sym (ap (λ (u : Tunnel). slice_index u.path (length u.path - 1)) head);
        width = subst (λ (u : Tunnel). IsWidth q u.width) (sym same) (width-back _ row.width);
        old = subst (λ (u : Tunnel). IsRate u.old) (sym same) row.new;
        new = subst (λ (u : Tunnel). IsRate u.new) (sym same) row.old;
      }

  pub back-is_network : IsNetwork q
  back-is_network = record {
    format = net.format;
    switches = record {
      count = net.switches.count;
      names = net.switches.names;
      tables = net.switches.tables;
      once = net.switches.once;
    };
    links = record {
      count = net.links.count;
      from = net.links.from;
      to = net.links.to;
      capacities = net.links.capacities;
      once = net.links.once;
    };
    flows = record {
      count = net.flows.count;
      names = net.flows.names;
      once = net.flows.once;
      few = net.flows.few;
      in_order = net.flows.in_order;
      all = tunnels-turned p ∙ net.flows.all;
    };
    few = omega (arith, net.few, tunnels-turned p);
    tunnels = λ t lt. tunnel-back t (omega (arith, lt, tunnels-turned p));
  }
