use Rattle.std.proofs.Common.{◌++◌, ◌==◌, codes, length, map, ap, sym, ◌∙◌}
use Rattle.text_writer.proofs.Pushing.{at_value, said_so}
use Rattle.json.specs.Print.{escape_byte}
use Rattle.rollout_rules.specs.Sums.{list_below}
use Rattle.serde_json.specs.Data.{no_members, member}
use Rattle.serde_json.specs.Written.{compact_text}
use Rattle.problem_json.specs.Writing.{switch_data, link_data, flow_data, list_data, format_text}
use Rattle.problem_json.proofs.Rows.{by_eight, format_member}
use Rattle.problem_json.proofs.writing.problem.push_problem.Goals as goal

pub returns-clause-text : goal.returns-clause-text
unfolding escape_byte
returns-clause-text g c =
    let p = c.args.problem.now in
    let flows = list_data (list_below (length p.flows) (flow_data p)) in
    let links = list_data (map (link_data p) p.links) in
    let switches = list_data (map switch_data p.switches) in
    let behind = member (codes "links") links (member (codes "switches") switches no_members) in
    said_so g.P.Pieces.pushes (ap (λ t. codes "{\"flows\":" ++ (compact_text flows ++ t)) (sym (format_member (p.format == 1) p.format behind)))
    (by_eight g.P.Pieces.pushes g.met.P.Pieces.pushed_further
    c.push_str.ensures c.push_flows.ensures (at_value g.P.Pieces.pushes format_text c.format.ensures.value c.push_format.ensures)
    c.push_str-2.ensures c.push_links.ensures c.push_str-3.ensures
    (at_value g.P.Pieces.pushes (λ ss. compact_text (list_data (map switch_data ss))) c.switches-3.ensures.list c.push_switches.ensures)
    c.push_str-4.ensures)
