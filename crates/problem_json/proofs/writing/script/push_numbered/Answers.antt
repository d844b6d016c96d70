use Rattle.std.proofs.Common.{decimal, arith}
use Rattle.text_writer.proofs.Pushing.{at_value}
use Rattle.problem_json.proofs.Rows.{by_three}
use Rattle.problem_json.proofs.writing.script.push_numbered.Goals as goal

pub returns-clause-text : goal.returns-clause-text
returns-clause-text g c =
    by_three g.P.Pieces.pushes g.met.P.Pieces.pushed_further c.push_str.ensures (at_value g.P.Pieces.pushes decimal c.from.ensures c.push_number.ensures) c.push_str-2.ensures

pub returns-clause-few : goal.returns-clause-few
returns-clause-few g c = omega (arith, c.ranges.number.fits)
