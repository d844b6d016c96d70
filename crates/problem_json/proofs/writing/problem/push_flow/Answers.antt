use Rattle.std.proofs.Common.{◌≡◌, ◌+◌, ◌-◌, length, slice_index_or, suc, ap, refl, ◌∙◌, arith}
use Rattle.std.proofs.lemmas.List.{get_or_read_under}
use Rattle.text_writer.proofs.Pushing.{at_value}
use Rattle.json.specs.Print.{escape_byte}
use Rattle.rollout_rules.specs.Sums.{list_below}
use Rattle.rollout_rules.specs.Wan.{Flow, flow_at, no_flow}
use Rattle.rollout_rules.proofs.Below.{sum_below-up}
use Rattle.rollout_rules.proofs.Tunnels.{tunnels_of}
use Rattle.serde_json.specs.Data.{string}
use Rattle.serde_json.specs.Written.{compact_text}
use Rattle.problem_json.specs.Writing.{tunnel_data, list_data}
use Rattle.problem_json.proofs.Rows.{by_five, quoted_flow_at}
use Rattle.problem_json.proofs.writing.problem.push_flow.Goals as goal

pub push_tunnels-requires-clause-inside : goal.push_tunnels-requires-clause-inside
push_tunnels-requires-clause-inside g c =
    let p = c.args.problem.now in
    let f = c.args.number in
    let row : c.index-flows-number.result ≡ flow_at p f =
    get_or_read_under p.flows f (length p.flows) c.index-flows-number.result no_flow (c.index-flows-number.is ∙ ap (λ fs. slice_index_or fs f c.index-flows-number.result) c.flows.ensures.list) c.requires.inside refl in
    let first : c.flow.inside.first ≡ (flow_at p f).first = ap (λ (x : Flow). x.first) (c.flow.view_is ∙ row) in
    let tunnels : c.flow.inside.tunnels ≡ (flow_at p f).tunnels = ap (λ (x : Flow). x.tunnels) (c.flow.view_is ∙ row) in
    let flows = c.flows.ensures.network.flows in
    omega (arith, first, tunnels, flows.in_order f c.requires.inside, flows.all, sum_below-up (suc f) (length p.flows) (tunnels_of p) c.requires.inside)

pub returns : goal.returns
unfolding escape_byte
returns g c =
    let p = c.args.problem.now in
    let f = c.args.number in
    let row : c.index-flows-number.result ≡ flow_at p f =
    get_or_read_under p.flows f (length p.flows) c.index-flows-number.result no_flow (c.index-flows-number.is ∙ ap (λ fs. slice_index_or fs f c.index-flows-number.result) c.flows.ensures.list) c.requires.inside refl in
    let first : c.flow.inside.first ≡ (flow_at p f).first = ap (λ (x : Flow). x.first) (c.flow.view_is ∙ row) in
    let count : c.flow.inside.first + c.flow.inside.tunnels - c.flow.inside.first ≡ (flow_at p f).tunnels = omega (arith, ap (λ (x : Flow). x.tunnels) (c.flow.view_is ∙ row)) in
    let name : c.as_str.result.now ≡ compact_text (string (flow_at p f).name) =
    c.as_str.ensures ∙ quoted_flow_at c.flows-2.result.now p f c.index-flows-number-2.result (c.flows-2.ensures ∙ c.requires.names.flows) c.requires.inside c.index-flows-number-2.is in
    by_five g.P.Pieces.pushes g.met.P.Pieces.pushed_further
    c.push_str.ensures (at_value g.P.Pieces.pushes (λ t. t) name c.push_str-2.ensures)
    c.push_str-3.ensures
    (at_value g.P.Pieces.pushes (λ b. compact_text (list_data (list_below (flow_at p f).tunnels (λ j. tunnel_data p (b + j))))) first
    (at_value g.P.Pieces.pushes (λ n. compact_text (list_data (list_below n (λ j. tunnel_data p (c.flow.inside.first + j))))) count c.push_tunnels.ensures))
    c.push_str-4.ensures
