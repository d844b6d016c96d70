-- What the type of a problem keeps, it keeps as rows are added: a network, whose names and ends are numbered.
use Rattle.std.proofs.Common.{◌≡◌, ℕ, ◌-◌, ◌<◌, List, [], ◌∷◌, ◌++◌, map, length, get_or, set, Option, sym, ap, ap₂, ◌∙◌, arith}
use Rattle.std.proofs.lemmas.List.{map_push, map-set, get_or-map, get_or_read, set-get_or}
use Rattle.rollout_rules.specs.Wan.{Flow, Problem, no_flow, flow_at}
use Rattle.rollout_rules.specs.Building.{with_switch, with_link, with_flow, with_tunnel, with_one_more, last_flow, MayAddSwitch, MayAddLink, MayAddFlow, MayAddTunnel}
use Rattle.wan_model.specs.Numbered.{IsNumberedNetwork}
use Rattle.wan_model.proofs.Building.{with_switch-IsNetwork, with_link-IsNetwork, with_flow-IsNetwork}
use Rattle.wan_model.proofs.BuildingTunnels.{with_tunnel-IsNetwork}

-- the flows after the last row, read at its place, got one tunnel more
pub last_row_grows : (flows : List Flow) (n : ℕ) (row : Flow) → n ≡ length flows → 0 < length flows → row ≡ get_or flows (n - 1) row
    → set flows (length flows - 1) (with_one_more (get_or flows (length flows - 1) no_flow)) ≡ set flows (n - 1) (with_one_more row)
last_row_grows flows n row long some read =
    let at : length flows - 1 ≡ n - 1 = omega arith in
    let is : get_or flows (length flows - 1) no_flow ≡ row = ap (λ i. get_or flows i no_flow) at ∙ sym (get_or_read flows (n - 1) row (omega arith) read no_flow) in
    ap₂ (λ i f. set flows i (with_one_more f)) at is

module _ (p : Problem) (names flow_names : List (List ℕ)) (ends : List (ℕ × ℕ)) (k : IsNumberedNetwork p names flow_names ends) where
  pub keeps_with_switch : (name : List ℕ) (table : ℕ) → MayAddSwitch p name table → IsNumberedNetwork (with_switch p name table) (names ++ name ∷ []) flow_names ends
  keeps_with_switch name table may = (
    with_switch-IsNetwork p name table k.0 may,
    record {
      of_switches = ap (λ ns. ns ++ name ∷ []) k.1.of_switches ∙ sym (map_push (λ s. s.name) p.switches _);
      of_flows = k.1.of_flows;
      of_links = k.1.of_links;
    },
  )

  pub keeps_with_link : (a b capacity : ℕ) → MayAddLink p a b capacity → IsNumberedNetwork (with_link p a b capacity) names flow_names (ends ++ (a, b) ∷ [])
  keeps_with_link a b capacity may = (
    with_link-IsNetwork p a b capacity k.0 may,
    record {
      of_switches = k.1.of_switches;
      of_flows = k.1.of_flows;
      of_links = ap (λ es. es ++ (a, b) ∷ []) k.1.of_links ∙ sym (map_push (λ l. (l.from, l.to)) p.links _);
    },
  )

  pub keeps_with_flow : (name : List ℕ) → MayAddFlow p name → IsNumberedNetwork (with_flow p name) names (flow_names ++ name ∷ []) ends
  keeps_with_flow name may = (
    with_flow-IsNetwork p name k.0 may,
    record {
      of_switches = k.1.of_switches;
      of_flows = ap (λ ns. ns ++ name ∷ []) k.1.of_flows ∙ sym (map_push (λ f. f.name) p.flows _);
      of_links = k.1.of_links;
    },
  )

  -- a flow with one tunnel more has its name
  same_names : 0 < length p.flows → map (λ f. f.name) p.flows ≡ map (λ f. f.name) (set p.flows (last_flow p) (with_one_more (flow_at p (last_flow p))))
  same_names some =
      let inside : last_flow p < length p.flows = omega arith in
      let kept = get_or-map (λ (f : Flow). f.name) p.flows (last_flow p) no_flow [] inside in
      sym (map-set (λ (f : Flow). f.name) p.flows (last_flow p) _ ∙ ap (set (map (λ f. f.name) p.flows) (last_flow p)) (sym kept) ∙ set-get_or (map (λ f. f.name) p.flows) (last_flow p) [])

  pub keeps_with_tunnel : (path : List ℕ) (old new : Option ℕ) (width : ℕ) → MayAddTunnel p path old new width → IsNumberedNetwork (with_tunnel p path old new width) names flow_names ends
  keeps_with_tunnel path old new width may = (
    with_tunnel-IsNetwork p path old new width k.0 may,
    record {
      of_switches = k.1.of_switches;
      of_flows = k.1.of_flows ∙ same_names may.some_flow;
      of_links = k.1.of_links;
    },
  )
