-- A network that grows keeps its tunnels.
use Rattle.std.proofs.Common.{◌≡◌, ℕ, ◌+◌, ◌-◌, ◌<◌, ◌≤◌, List, length, slice_index, sym, ap, subst, ◌∙◌, arith}
use Rattle.rollout_rules.specs.Wan.{Tunnel, Problem, link_at, flow_at, tunnel_at, tunnel_of}
use Rattle.rollout_rules.specs.Network.{IsPath, IsTunnel, IsRate, IsWidth}

-- q has the format and the rows of p, and maybe more rows; a flow may have more tunnels
pub record Grows (p q : Problem) : Type 0 where
  pub format : q.format ≡ p.format
  pub switches : length p.switches ≤ length q.switches
  pub links : length p.links ≤ length q.links
  pub link : (l : ℕ) → l < length p.links → link_at q l ≡ link_at p l
  pub flows : length p.flows ≤ length q.flows
  pub first : (f : ℕ) → f < length p.flows → (flow_at q f).first ≡ (flow_at p f).first
  pub more : (f : ℕ) → f < length p.flows → (flow_at p f).tunnels ≤ (flow_at q f).tunnels
  pub tunnel : (t : ℕ) → t < length p.tunnels → tunnel_at q t ≡ tunnel_at p t

module _ (p q : Problem) (g : Grows p q) where
  pub path_stays : (path along : List ℕ) → IsPath p path along → IsPath q path along
  path_stays path along i = record {
    least = i.least;
    most = i.most;
    between = i.between;
    switches = λ h inside. omega (arith, i.switches h inside, g.switches);
    once = i.once;
    links = λ h inside. omega (arith, i.links h inside, g.links);
    from = λ h inside. ap (λ l. l.from) (g.link (slice_index along h) (i.links h inside)) ∙ i.from h inside;
    to = λ h inside. ap (λ l. l.to) (g.link (slice_index along h) (i.links h inside)) ∙ i.to h inside;
  }

  pub width_stays : (wide : ℕ) → IsWidth p wide → IsWidth q wide
  width_stays wide i = record {
    some = i.some;
    most = i.most;
    plain = λ one. i.plain (sym g.format ∙ one);
  }

  pub tunnel_stays : (t : ℕ) → t < length p.tunnels → IsTunnel p t → IsTunnel q t
  tunnel_stays t inside i =
      let same = g.tunnel t inside in
      let flow : (tunnel_at q t).flow ≡ (tunnel_at p t).flow = ap (λ u. u.flow) same in
      let first : (flow_at q (tunnel_at q t).flow).first ≡ (flow_at p (tunnel_at p t).flow).first = ap (λ f. (flow_at q f).first) flow ∙ g.first _ i.flow in
      let size : (flow_at q (tunnel_at q t).flow).tunnels ≡ (flow_at q (tunnel_at p t).flow).tunnels = ap (λ f. (flow_at q f).tunnels) flow in
      let begins : (flow_at p (tunnel_at p t).flow).first + 0 < length p.tunnels = omega (arith, i.behind, inside) in
      let head : tunnel_at q (tunnel_of q (tunnel_at q t).flow 0) ≡ tunnel_at p (tunnel_of p (tunnel_at p t).flow 0) = ap (λ f. tunnel_at q (f + 0)) first ∙ g.tunnel _ begins in
      record {
        flow = omega (arith, flow, i.flow, g.flows);
        behind = omega (arith, first, i.behind);
        ahead = omega (arith, first, size, i.ahead, g.more _ i.flow);
        path = subst (λ (u : Tunnel). IsPath q u.path u.links) (sym same) (path_stays _ _ i.path);
        ingress = ap (λ u. slice_index u.path 0) same ∙ i.ingress ∙ sym (ap (λ u. slice_index u.path 0) head);
        egress = ap (λ u. slice_index u.path (length u.path - 1)) same ∙ i.egress ∙ sym (ap (λ u. slice_index u.path (length u.path - 1)) head);
        width = subst (λ (u : Tunnel). IsWidth q u.width) (sym same) (width_stays _ i.width);
        old = subst (λ (u : Tunnel). IsRate u.old) (sym same) i.old;
        new = subst (λ (u : Tunnel). IsRate u.new) (sym same) i.new;
      }
