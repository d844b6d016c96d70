-- A network with other capacities is one still.
use Rattle.std.proofs.Common.{◌≡◌, ℕ, ◌<◌, ◌≤◌, List, length, slice_index, sym, ap, ◌∙◌, arith}
use Rattle.rollout_rules.specs.declared.limits.TheConstants.{LARGEST_CAPACITY}
use Rattle.rollout_rules.specs.Wan.{Problem, Link, no_link, link_at, tunnel_at}
use Rattle.rollout_rules.specs.Network.{IsNetwork, IsPath, IsWidth, IsTunnel}
use Rattle.rollout_rules.proofs.Rows.{list_below-length, list_below-at}
use Rattle.retarget_plan.specs.Left.{sized, with_capacities}

module _ (p : Problem) (capacities : List ℕ) where
  abbrev q : Problem
  q = with_capacities p capacities

  pub sized-count : length q.links ≡ length p.links
  sized-count = list_below-length (length p.links) (sized p capacities)

  pub sized-at : (l : ℕ) → l < length p.links → link_at q l ≡ sized p capacities l
  sized-at l lt = list_below-at (length p.links) (sized p capacities) l no_link lt

  from-at : (l : ℕ) → l < length p.links → (link_at q l).from ≡ (link_at p l).from
  from-at l lt = ap (λ (k : Link). k.from) (sized-at l lt)

  to-at : (l : ℕ) → l < length p.links → (link_at q l).to ≡ (link_at p l).to
  to-at l lt = ap (λ (k : Link). k.to) (sized-at l lt)

  pub capacity-at : (l : ℕ) → l < length p.links → (link_at q l).capacity ≡ slice_index capacities l
  capacity-at l lt = ap (λ (k : Link). k.capacity) (sized-at l lt)

  inside : (l : ℕ) → l < length q.links → l < length p.links
  inside l lt = omega (arith, lt, sized-count)

  module _ (net : IsNetwork p) (few : (l : ℕ) → l < length p.links → slice_index capacities l ≤ LARGEST_CAPACITY) where
    path-sized : (path along : List ℕ) → IsPath p path along → IsPath q path along
    path-sized path along is = record {
      least = is.least;
      most = is.most;
      between = is.between;
      switches = is.switches;
      once = is.once;
      links = λ h lt. omega (arith, is.links h lt, sized-count);
      from = λ h lt. from-at (slice_index along h) (is.links h lt) ∙ is.from h lt;
      to = λ h lt. to-at (slice_index along h) (is.links h lt) ∙ is.to h lt;
    }

    width-sized : (width : ℕ) → IsWidth p width → IsWidth q width
    width-sized width is = record { some = is.some; most = is.most; plain = is.plain }

    tunnel-sized : (t : ℕ) → t < length p.tunnels → IsTunnel q t
    tunnel-sized t lt =
        let row = net.tunnels t lt in
        record {
          flow = row.flow;
          behind = row.behind;
          ahead = row.ahead;
          path = path-sized (tunnel_at p t).path (tunnel_at p t).links row.path;
          ingress = row.ingress;
          egress = row.egress;
          width = width-sized (tunnel_at p t).width row.width;
          old = row.old;
          new = row.new;
        }

    pub sized-is_network : IsNetwork q
    sized-is_network = record {
      format = net.format;
      switches = record {
        count = net.switches.count;
        names = net.switches.names;
        tables = net.switches.tables;
        once = net.switches.once;
      };
      links = record {
        count = omega (arith, net.links.count, sized-count);
        from = λ l lt. omega (arith, from-at l (inside l lt), net.links.from l (inside l lt));
        to = λ l lt. omega (arith, to-at l (inside l lt), net.links.to l (inside l lt));
        capacities = λ l lt. omega (arith, capacity-at l (inside l lt), few l (inside l lt));
        once = λ k l in_k in_l from to.
            net.links.once k l (inside k in_k) (inside l in_l)
            (sym (from-at k (inside k in_k)) ∙ from ∙ from-at l (inside l in_l))
            (sym (to-at k (inside k in_k)) ∙ to ∙ to-at l (inside l in_l));
      };
      flows = record {
        count = net.flows.count;
        names = net.flows.names;
        once = net.flows.once;
        few = net.flows.few;
        in_order = net.flows.in_order;
        all = net.flows.all;
      };
      few = net.few;
      tunnels = λ t lt. tunnel-sized t lt;
    }
