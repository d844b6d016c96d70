use Rattle.std.proofs.Common.{decimal, map, ap, ◌∙◌}
use Rattle.text_writer.proofs.Pushing.{at_value}
use Rattle.json.specs.Print.{escape_byte}
use Rattle.rollout_rules.specs.Wan.{Plan}
use Rattle.serde_json.specs.Written.{compact_text}
use Rattle.problem_json.specs.Writing.{stage_data, list_data}
use Rattle.problem_json.proofs.Rows.{by_five}
use Rattle.problem_json.proofs.writing.plan.push_plan.Goals as goal

pub returns-clause-text : goal.returns-clause-text
unfolding escape_byte
returns-clause-text g c =
    let scale = c.from.ensures ∙ ap (λ (x : Plan). x.scale) c.plan.view_is in
    let stages = c.as_slice.ensures ∙ ap (λ (x : Plan). x.stages) c.plan.view_is in
    by_five g.P.Pieces.pushes g.met.P.Pieces.pushed_further
    c.push_str.ensures (at_value g.P.Pieces.pushes decimal scale c.push_number.ensures)
    c.push_str-2.ensures (at_value g.P.Pieces.pushes (λ xs. compact_text (list_data (map stage_data xs))) stages c.push_stages.ensures.text)
    c.push_str-3.ensures
