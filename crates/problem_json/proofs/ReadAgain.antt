-- What is written for a problem is read as that problem.
use Rattle.std.proofs.Common.{◌≡◌, ℕ, suc, ◌+◌, ◌<◌, ◌≤◌, List, length, map, take, is_none, Some, option_map, option_and_then, ◌==◌, Result, Ok, IsUtf8, codes, ap, ◌∙◌, arith}
use Rattle.std.proofs.lemmas.Bool.{le-leb}
use Rattle.std.proofs.lemmas.List.{length-take-le, length-map}
use Rattle.rollout_rules.specs.Sums.{sum_below, list_below}
use Rattle.rollout_rules.specs.Wan.{Problem, Plan, no_switch, no_link, switch_at, link_at, flow_at, tunnel_of}
use Rattle.rollout_rules.specs.Network.{IsNetwork}
use Rattle.rollout_rules.specs.declared.limits.TheConstants.{MOST_SWITCHES, MOST_LINKS, MOST_FLOWS, MOST_TUNNELS, MOST_TUNNELS_OF_FLOW}
use Rattle.rollout_rules.specs.Building.{find_flow}
use Rattle.rollout_rules.proofs.Below.{sum_below-up}
use Rattle.rollout_rules.proofs.Tunnels.{tunnels_of}
use Rattle.serde_json.specs.Data.{Data}
use Rattle.serde_json.specs.Events.{items_len}
use Rattle.serde_json.specs.Find.{get}
use Rattle.serde_json.specs.Read.{read}
use Rattle.serde_json.specs.View.{items_of}
use Rattle.rollout_rules.proofs.Rows.{list_below-length}
use Rattle.problem_json.specs.GrammarResults.{◌>>=◌, add_each}
use Rattle.problem_json.specs.GrammarValues.{member_in, list_in, list_of, name_of}
use Rattle.problem_json.specs.GrammarNetwork.{with_one_switch, with_one_link, with_one_tunnel, with_one_flow}
use Rattle.problem_json.specs.Grammar.{with_list, problem_of, data_in}
use Rattle.problem_json.specs.GrammarDocuments.{problem_part, plan_part, document_of}
use Rattle.problem_json.specs.WithinLimits.{IsPlanWithin}
use Rattle.problem_json.specs.declared.fault.InputFault.{InputFault}
use Rattle.problem_json.specs.Places.{place_of}
use Rattle.problem_json.specs.declared.place.Place.{Place}
use Rattle.problem_json.specs.declared.place.Part.TheVariants as part
use Rattle.problem_json.specs.declared.key.Key.TheVariants as key
use Rattle.problem_json.specs.Writing.{switch_data, link_data, tunnel_data, flow_data, problem_data, document_data, HoldsProblem}
use Rattle.problem_json.proofs.Adding.{goes_on, held-true, add_each-below, map-below, items_len-items_of}
use Rattle.problem_json.proofs.ReadValues.{name_in-string, list_in-list}
use Rattle.wan_model.specs.Fronts.{switched, linked, flowed, begun}
use Rattle.wan_model.proofs.Lookups.{flow_is_new}
use Rattle.wan_model.proofs.Fronts.{flow_begins, flow_ends, switches_end, links_end, flows_end}
use Rattle.problem_json.proofs.ReadNetwork.{one_switch_more, one_link_more}
use Rattle.problem_json.proofs.Formats.{links_found, switches_found, format_found}
use Rattle.problem_json.proofs.ReadPlans.{plan_is_read}
use Rattle.problem_json.proofs.Text.{data_read}
use Rattle.problem_json.proofs.ReadTunnels.{one_tunnel_more}

module _ (p : Problem) (net : IsNetwork p) where
  one_flow_more : (f : ℕ) → f < length p.flows → with_one_flow (flow_data p f) (flowed p f) ≡ Ok (flowed p (f + 1))
  unfolding with_one_flow name_of list_of member_in
  one_flow_more f lt =
      let q = flowed p f in
      let name = (flow_at p f).name in
      let tunnel : ℕ → Data = λ j. tunnel_data p (tunnel_of p f j) in
      let written = list_below (tunnels_of p f) tunnel in
      let len : length written ≡ tunnels_of p f = list_below-length (tunnels_of p f) tunnel in
      let count : items_len (items_of written) ≡ tunnels_of p f = items_len-items_of written ∙ len in
      let sum = sum_below f (tunnels_of p) in
      let up : sum + tunnels_of p f ≤ length p.tunnels = omega (arith, net.flows.all, sum_below-up (suc f) (length p.flows) (tunnels_of p) lt) in
      let before : length (take sum p.tunnels) ≡ sum = length-take-le sum p.tunnels (omega arith) in
      goes_on _ name _ (name_in-string _ name (net.flows.names f lt))
      ∙ goes_on _ tt _ (held-true (is_none (find_flow q name)) _ (ap is_none (flow_is_new p f net.flows lt)))
      ∙ goes_on _ (items_of written) _ (list_in-list _ MOST_TUNNELS_OF_FLOW written (omega (arith, net.flows.few f lt)))
      ∙ goes_on _ tt _ (held-true _ _ (le-leb (length q.tunnels + items_len (items_of written)) MOST_TUNNELS (omega (arith, net.few))))
      ∙ ap (add_each with_one_tunnel (items_of written)) (flow_begins p net f lt)
      ∙ add_each-below with_one_tunnel tunnel (begun p f) (tunnels_of p f) (one_tunnel_more p net f lt)
      ∙ ap Ok (flow_ends p net f lt)

  switches_are_read : (object : Place) → with_list object key.Switches (place_of part.Switches) MOST_SWITCHES with_one_switch (problem_data p) (switched p 0) ≡ Ok (linked p 0)
  unfolding with_list list_of
  switches_are_read object =
      let written = map switch_data p.switches in
      goes_on _ (items_of written) _ (goes_on _ _ (list_in _ MOST_SWITCHES) (switches_found _ (p.format == 1) p.format _ _ _) ∙ list_in-list _ MOST_SWITCHES written (omega (arith, net.switches.count, length-map p.switches switch_data)))
      ∙ ap (λ ds. add_each with_one_switch (items_of ds) (switched p 0)) (map-below switch_data p.switches no_switch)
      ∙ add_each-below with_one_switch (λ k. switch_data (switch_at p k)) (switched p) (length p.switches) (one_switch_more p net)
      ∙ ap Ok (switches_end p net)

  links_are_read : (object : Place) → with_list object key.Links (place_of part.Links) MOST_LINKS with_one_link (problem_data p) (linked p 0) ≡ Ok (flowed p 0)
  unfolding with_list list_of
  links_are_read object =
      let written = map (link_data p) p.links in
      goes_on _ (items_of written) _ (goes_on _ _ (list_in _ MOST_LINKS) (links_found _ (p.format == 1) p.format _ _ _) ∙ list_in-list _ MOST_LINKS written (omega (arith, net.links.count, length-map p.links (link_data p))))
      ∙ ap (λ ds. add_each with_one_link (items_of ds) (linked p 0)) (map-below (link_data p) p.links no_link)
      ∙ add_each-below with_one_link (λ k. link_data p (link_at p k)) (linked p) (length p.links) (one_link_more p net)
      ∙ ap Ok (links_end p net)

  flows_are_read : (object : Place) → with_list object key.Flows (place_of part.Flows) MOST_FLOWS with_one_flow (problem_data p) (flowed p 0) ≡ Ok p
  unfolding with_list list_of member_in
  flows_are_read object =
      let written = list_below (length p.flows) (flow_data p) in
      goes_on _ (items_of written) _ (list_in-list _ MOST_FLOWS written (omega (arith, net.flows.count, list_below-length (length p.flows) (flow_data p))))
      ∙ add_each-below with_one_flow (flow_data p) (flowed p) (length p.flows) one_flow_more
      ∙ ap Ok (flows_end p net)

  pub problem_is_read : (object : Place) → problem_of object (problem_data p) ≡ Ok p
  unfolding problem_of
  problem_is_read object = goes_on _ (switched p 0) _ (format_found p.format _ _ _ net.format) ∙ goes_on _ (linked p 0) _ (switches_are_read object) ∙ goes_on _ (flowed p 0) _ (links_are_read object) ∙ flows_are_read object

-- a text of these data, where it is a text
pub text_is_read : {A : Type 0} (of : Data → Result A InputFault) (a : A) (d : Data) (text : List ℕ) → IsUtf8 text → read text ≡ Some d → of d ≡ Ok a → (data_in text >>= of) ≡ Ok a
text_is_read of a d text utf8 reads is = goes_on _ d of (data_read text d utf8 reads) ∙ is

pub document_is_read : (p : Problem) (plan : Plan) → IsNetwork p → IsPlanWithin plan → document_of (document_data p plan) ≡ Ok (record { problem = p; plan = plan })
unfolding document_of problem_part plan_part member_in document_data
document_is_read p plan net within =
    goes_on _ p _ (problem_is_read p net (place_of part.Problem)) ∙ goes_on _ plan _ (plan_is_read plan within)

-- a text that is read as a document holds its problem
pub document_holds : (p : Problem) (plan : Plan) → IsNetwork p → (text : List ℕ) → read text ≡ Some (document_data p plan) → HoldsProblem text p
unfolding document_data
document_holds p plan net text reads =
    ap (λ r. option_map (problem_of (place_of part.Problem)) (option_and_then (get (codes "problem")) r)) reads ∙ ap Some (problem_is_read p net (place_of part.Problem))
