use Rattle.std.proofs.Common.{◌≡◌, ◌<◌, ◌++◌, ◌==◌, ℕ, List, codes, map, length, slice_index, slice_index_or, subst, sym, ap, refl, ◌∙◌}
use Rattle.std.proofs.lemmas.List.{get_or_read_under, length-map}
use Rattle.text_writer.proofs.Pushing.{at_value, said_so}
use Rattle.json.specs.Print.{escape_byte}
use Rattle.rollout_rules.specs.Wan.{Tunnel, tunnel_at, no_tunnel}
use Rattle.serde_json.specs.Written.{compact_text}
use Rattle.problem_json.specs.Writing.{rate_data, list_data, name_data, width_text}
use Rattle.wan_text.specs.Named.{quoted_name}
use Rattle.problem_json.proofs.Rows.{by_eight, width_of_member}
use Rattle.problem_json.proofs.writing.problem.push_tunnel.Goals as goal

pub push_path-requires : goal.push_path-requires
push_path-requires g c =
    let p = c.args.problem.now in
    let In : List ℕ → Type 0 = λ xs. (h : ℕ) → h < length xs → slice_index xs h < length c.args.names.now in
    let row : c.index-tunnels-number.result ≡ tunnel_at p c.args.number =
    get_or_read_under p.tunnels c.args.number (length p.tunnels) c.index-tunnels-number.result no_tunnel (c.index-tunnels-number.is ∙ ap (λ ts. slice_index_or ts c.args.number c.index-tunnels-number.result) c.tunnels.ensures.list) c.requires.inside refl in
    let same : c.as_slice.result.now ≡ (tunnel_at p c.args.number).path = c.as_slice.ensures ∙ ap (λ (t : Tunnel). t.path) (c.tunnel.view_is ∙ row) in
    let many : length c.args.names.now ≡ length p.switches = ap length c.requires.names ∙ length-map p.switches quoted_name in
    subst In (sym same) (λ h lt. subst (λ n. slice_index (tunnel_at p c.args.number).path h < n) (sym many) ((c.tunnels.ensures.network.tunnels c.args.number c.requires.inside).path.switches h lt))

pub returns : goal.returns
unfolding escape_byte
returns g c =
    let p = c.args.problem.now in
    let t = tunnel_at p c.args.number in
    let row : c.index-tunnels-number.result ≡ tunnel_at p c.args.number =
    get_or_read_under p.tunnels c.args.number (length p.tunnels) c.index-tunnels-number.result no_tunnel (c.index-tunnels-number.is ∙ ap (λ ts. slice_index_or ts c.args.number c.index-tunnels-number.result) c.tunnels.ensures.list) c.requires.inside refl in
    let is = c.tunnel.view_is ∙ row in
    let path : c.as_slice.result.now ≡ t.path = c.as_slice.ensures ∙ ap (λ (x : Tunnel). x.path) is in
    let named = compact_text (list_data (map (name_data p) t.path)) in
    said_so g.P.Pieces.pushes (ap (λ end. codes "{\"new\":" ++ (compact_text (rate_data t.new) ++ (codes ",\"old\":" ++ (compact_text (rate_data t.old) ++ (codes ",\"path\":" ++ (named ++ end)))))) (sym (width_of_member (p.format == 1) t.width)))
    (by_eight g.P.Pieces.pushes g.met.P.Pieces.pushed_further
    c.push_str.ensures (at_value g.P.Pieces.pushes (λ (x : Tunnel). compact_text (rate_data x.new)) is c.push_rate.ensures)
    c.push_str-2.ensures (at_value g.P.Pieces.pushes (λ (x : Tunnel). compact_text (rate_data x.old)) is c.push_rate-2.ensures)
    c.push_str-3.ensures (at_value g.P.Pieces.pushes (λ xs. compact_text (list_data (map (name_data p) xs))) path (c.push_path.ensures p c.requires.names))
    (at_value g.P.Pieces.pushes (λ (x : Tunnel). width_text p.format x.width) is (at_value g.P.Pieces.pushes (λ n. width_text n c.tunnel.inside.width) c.format.ensures.value c.push_width.ensures))
    c.push_str-4.ensures)
