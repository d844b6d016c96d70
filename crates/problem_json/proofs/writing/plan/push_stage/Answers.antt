use Rattle.std.proofs.Common.{map, ap, ◌∙◌}
use Rattle.text_writer.proofs.Pushing.{at_value}
use Rattle.json.specs.Print.{escape_byte}
use Rattle.rollout_rules.specs.Wan.{Stage}
use Rattle.serde_json.specs.Data.{boolean}
use Rattle.serde_json.specs.Written.{compact_text}
use Rattle.problem_json.specs.Writing.{number_data, list_data}
use Rattle.problem_json.proofs.Rows.{by_five}
use Rattle.problem_json.proofs.writing.plan.push_stage.Goals as goal

pub returns-clause-text : goal.returns-clause-text
unfolding escape_byte
returns-clause-text g c =
    let marks = c.as_slice.ensures ∙ ap (λ (x : Stage). x.installed) c.stage.view_is in
    let rates = c.as_slice-2.ensures ∙ ap (λ (x : Stage). x.rates) c.stage.view_is in
    by_five g.P.Pieces.pushes g.met.P.Pieces.pushed_further
    c.push_str.ensures (at_value g.P.Pieces.pushes (λ xs. compact_text (list_data (map boolean xs))) marks c.push_marks.ensures)
    c.push_str-2.ensures (at_value g.P.Pieces.pushes (λ xs. compact_text (list_data (map number_data xs))) rates c.push_rates.ensures.text)
    c.push_str-3.ensures
