-- A network stays a network as switches, links and flows are added.
use Rattle.std.proofs.Common.{◌≡◌, ℕ, suc, ◌<◌, ◌≤◌, ◌&&◌, ◌==◌, List, length, refl, sym, ap, ◌∙◌, eq-eqb, true≢false, ⊎_elim, arith}
use Rattle.std.proofs.lemmas.Bool.{and_from}
use Rattle.std.proofs.lemmas.List.{length_push}
use Rattle.rollout_rules.specs.Sums.{same_numbers, sum_below}
use Rattle.rollout_rules.specs.Wan.{Switch, Link, Flow, Problem, no_switch, no_link, no_flow, switch_at, link_at, flow_at}
use Rattle.rollout_rules.specs.declared.limits.TheConstants.{LARGEST_TABLE, LARGEST_CAPACITY, LONGEST_NAME, MOST_TUNNELS_OF_FLOW}
use Rattle.rollout_rules.specs.Network.{AreSwitches, AreLinks, AreFlows, IsFormat, IsNetwork}
use Rattle.rollout_rules.specs.Building.{no_problem, with_switch, with_link, with_flow, MayAddSwitch, MayAddLink, MayAddFlow}
use Rattle.wan_model.proofs.Positions.{fails_at_each, same_numbers-refl}
use Rattle.wan_model.proofs.Pushes.{push_cases, push_below, push_last, each_push, once_push, sum_below_agrees}
use Rattle.wan_model.proofs.Growing.{Grows, tunnel_stays}

abbrev added_switch : List ℕ → ℕ → Switch
added_switch name table = record { name = name; table = table }

abbrev added_link : ℕ → ℕ → ℕ → Link
added_link a b capacity = record { from = a; to = b; capacity = capacity }

abbrev added_flow : Problem → List ℕ → Flow
added_flow p name = record { name = name; first = length p.tunnels; tunnels = 0 }

-- a list without rows has whatever is asked of each row
pub no_problem-IsNetwork : (format : ℕ) → IsFormat format → IsNetwork (record no_problem { format = format })
no_problem-IsNetwork format is = record {
  format = is;
  switches = record { count = omega arith; names = λ w inside. absurd (omega arith); tables = λ w inside. absurd (omega arith); once = λ v w inside. absurd (omega arith) };
  links = record { count = omega arith; from = λ l inside. absurd (omega arith); to = λ l inside. absurd (omega arith); capacities = λ l inside. absurd (omega arith); once = λ k l inside. absurd (omega arith) };
  flows = record { count = omega arith; names = λ f inside. absurd (omega arith); once = λ f g inside. absurd (omega arith); few = λ f inside. absurd (omega arith); in_order = λ f inside. absurd (omega arith); all = refl };
  few = omega arith;
  tunnels = λ t inside. absurd (omega arith);
}

module _ (p : Problem) (name : List ℕ) (table : ℕ) (n : IsNetwork p) (may : MayAddSwitch p name table) where
  switch_fresh : (w : ℕ) → w < length p.switches → (switch_at p w).name ≡ name → ⊥
  switch_fresh w inside e = true≢false (sym (same_numbers-refl name) ∙ ap (λ m. same_numbers m name) (sym e) ∙ fails_at_each (λ s. same_numbers s.name name) p.switches may.fresh w no_switch inside)

  with_switch-AreSwitches : AreSwitches (with_switch p name table)
  with_switch-AreSwitches = record {
    count = omega (arith, length_push p.switches (added_switch name table), may.room);
    names = each_push p.switches _ no_switch (λ s. length s.name ≤ LONGEST_NAME) n.switches.names may.short;
    tables = each_push p.switches _ no_switch (λ s. s.table ≤ LARGEST_TABLE) n.switches.tables may.within;
    once = once_push p.switches _ no_switch (λ s t. s.name ≡ t.name) (λ s t e. sym e) n.switches.once switch_fresh;
  }

  with_switch-Grows : Grows p (with_switch p name table)
  with_switch-Grows = record {
    format = refl;
    switches = omega (arith, length_push p.switches (added_switch name table));
    links = omega arith;
    link = λ l inside. refl;
    flows = omega arith;
    first = λ f inside. refl;
    more = λ f inside. omega arith;
    tunnel = λ t inside. refl;
  }

  pub with_switch-IsNetwork : IsNetwork (with_switch p name table)
  with_switch-IsNetwork = record {
    format = n.format;
    switches = with_switch-AreSwitches;
    links = record {
      count = n.links.count;
      from = λ l inside. omega (arith, n.links.from l inside, with_switch-Grows.switches);
      to = λ l inside. omega (arith, n.links.to l inside, with_switch-Grows.switches);
      capacities = n.links.capacities;
      once = n.links.once;
    };
    flows = record {
      count = n.flows.count;
      names = n.flows.names;
      once = n.flows.once;
      few = n.flows.few;
      in_order = n.flows.in_order;
      all = n.flows.all;
    };
    few = n.few;
    tunnels = λ t inside. tunnel_stays p (with_switch p name table) with_switch-Grows t inside (n.tunnels t inside);
  }

module _ (p : Problem) (a b capacity : ℕ) (n : IsNetwork p) (may : MayAddLink p a b capacity) where
  link_fresh : (l : ℕ) → l < length p.links → ((link_at p l).from ≡ a) × ((link_at p l).to ≡ b) → ⊥
  link_fresh l inside e = true≢false (sym (and_from _ _ (eq-eqb _ _ e.0) (eq-eqb _ _ e.1)) ∙ fails_at_each (λ k. (k.from == a) && (k.to == b)) p.links may.fresh l no_link inside)

  with_link-AreLinks : AreLinks (with_link p a b capacity)
  with_link-AreLinks = record {
    count = omega (arith, length_push p.links (added_link a b capacity), may.room);
    from = each_push p.links _ no_link (λ l. l.from < length p.switches) n.links.from may.begins;
    to = each_push p.links _ no_link (λ l. l.to < length p.switches) n.links.to may.ends;
    capacities = each_push p.links _ no_link (λ l. l.capacity ≤ LARGEST_CAPACITY) n.links.capacities may.within;
    once = λ k l in_k in_l from to. once_push p.links _ no_link (λ x y. (x.from ≡ y.from) × (x.to ≡ y.to)) (λ x y e. (sym e.0, sym e.1)) (λ i j in_i in_j e. n.links.once i j in_i in_j e.0 e.1) link_fresh k l in_k in_l (from, to);
  }

  with_link-Grows : Grows p (with_link p a b capacity)
  with_link-Grows = record {
    format = refl;
    switches = omega arith;
    links = omega (arith, length_push p.links (added_link a b capacity));
    link = push_below p.links _ no_link;
    flows = omega arith;
    first = λ f inside. refl;
    more = λ f inside. omega arith;
    tunnel = λ t inside. refl;
  }

  pub with_link-IsNetwork : IsNetwork (with_link p a b capacity)
  with_link-IsNetwork = record {
    format = n.format;
    switches = record {
      count = n.switches.count;
      names = n.switches.names;
      tables = n.switches.tables;
      once = n.switches.once;
    };
    links = with_link-AreLinks;
    flows = record {
      count = n.flows.count;
      names = n.flows.names;
      once = n.flows.once;
      few = n.flows.few;
      in_order = n.flows.in_order;
      all = n.flows.all;
    };
    few = n.few;
    tunnels = λ t inside. tunnel_stays p (with_link p a b capacity) with_link-Grows t inside (n.tunnels t inside);
  }

module _ (p : Problem) (name : List ℕ) (n : IsNetwork p) (may : MayAddFlow p name) where
  flow_fresh : (f : ℕ) → f < length p.flows → (flow_at p f).name ≡ name → ⊥
  flow_fresh f inside e = true≢false (sym (same_numbers-refl name) ∙ ap (λ m. same_numbers m name) (sym e) ∙ fails_at_each (λ g. same_numbers g.name name) p.flows may.fresh f no_flow inside)

  -- the sums over the flows before the added one
  sums_stay : (f : ℕ) → f ≤ length p.flows → sum_below f (λ g. (flow_at p g).tunnels) ≡ sum_below f (λ g. (flow_at (with_flow p name) g).tunnels)
  sums_stay f within = sum_below_agrees _ _ f (λ k below. let inside : k < length p.flows = omega arith in sym (ap (λ g. g.tunnels) (push_below p.flows _ no_flow k inside)))

  with_flow-in_order : (f : ℕ) → f < length (with_flow p name).flows → (flow_at (with_flow p name) f).first ≡ sum_below f (λ g. (flow_at (with_flow p name) g).tunnels)
  with_flow-in_order f inside =
      ⊎_elim
      (λ lt. ap (λ g. g.first) (push_below p.flows _ no_flow f lt) ∙ n.flows.in_order f lt ∙ sums_stay f (omega arith))
      (λ e. ap (λ g. g.first) (push_last p.flows _ no_flow f e) ∙ n.flows.all ∙ ap (λ m. sum_below m (λ g. (flow_at p g).tunnels)) (sym e) ∙ sums_stay f (omega arith))
      (push_cases p.flows _ f inside)

  with_flow-all : length p.tunnels ≡ sum_below (length (with_flow p name).flows) (λ g. (flow_at (with_flow p name) g).tunnels)
  with_flow-all =
      let long : length (with_flow p name).flows ≡ suc (length p.flows) = omega (arith, length_push p.flows (added_flow p name)) in
      let last : (flow_at (with_flow p name) (length p.flows)).tunnels ≡ 0 = ap (λ g. g.tunnels) (push_last p.flows _ no_flow (length p.flows) refl) in
      let sums = sums_stay (length p.flows) (omega arith) in
      let more : length p.tunnels ≡ sum_below (suc (length p.flows)) (λ g. (flow_at (with_flow p name) g).tunnels) = omega (arith, n.flows.all, sums, last) in
      more ∙ ap (λ m. sum_below m (λ g. (flow_at (with_flow p name) g).tunnels)) (sym long)

  with_flow-AreFlows : AreFlows (with_flow p name)
  with_flow-AreFlows = record {
    count = omega (arith, length_push p.flows (added_flow p name), may.room);
    names = each_push p.flows _ no_flow (λ f. length f.name ≤ LONGEST_NAME) n.flows.names may.short;
    once = once_push p.flows _ no_flow (λ f g. f.name ≡ g.name) (λ f g e. sym e) n.flows.once flow_fresh;
    few = each_push p.flows _ no_flow (λ f. f.tunnels ≤ MOST_TUNNELS_OF_FLOW) n.flows.few (omega arith);
    in_order = with_flow-in_order;
    all = with_flow-all;
  }

  with_flow-Grows : Grows p (with_flow p name)
  with_flow-Grows = record {
    format = refl;
    switches = omega arith;
    links = omega arith;
    link = λ l inside. refl;
    flows = omega (arith, length_push p.flows (added_flow p name));
    first = λ f inside. ap (λ g. g.first) (push_below p.flows _ no_flow f inside);
    more = λ f inside. omega (arith, ap (λ g. g.tunnels) (push_below p.flows (added_flow p name) no_flow f inside));
    tunnel = λ t inside. refl;
  }

  pub with_flow-IsNetwork : IsNetwork (with_flow p name)
  with_flow-IsNetwork = record {
    format = n.format;
    switches = record {
      count = n.switches.count;
      names = n.switches.names;
      tables = n.switches.tables;
      once = n.switches.once;
    };
    links = record {
      count = n.links.count;
      from = n.links.from;
      to = n.links.to;
      capacities = n.links.capacities;
      once = n.links.once;
    };
    flows = with_flow-AreFlows;
    few = n.few;
    tunnels = λ t inside. tunnel_stays p (with_flow p name) with_flow-Grows t inside (n.tunnels t inside);
  }
