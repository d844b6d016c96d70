use Rattle.std.proofs.Common.{decimal}
use Rattle.text_writer.proofs.Pushing.{at_value}
use Rattle.json.specs.Print.{escape_byte}
use Rattle.problem_json.proofs.Rows.{by_five}
use Rattle.problem_json.proofs.writing.least.push_with_link.Goals as goal

pub returns : goal.returns
unfolding escape_byte
returns g c =
    by_five g.P.Pieces.pushes g.met.P.Pieces.pushed_further
    c.push_str.ensures (at_value g.P.Pieces.pushes decimal c.from.ensures c.push_number.ensures)
    c.push_str-2.ensures (at_value g.P.Pieces.pushes decimal c.from-2.ensures c.push_number-2.ensures)
    c.push_str-3.ensures
