use Rattle.plan_texts.proofs.Pushes.{by_seven}
use Rattle.plan_texts.proofs.op_lines.push_head.Goals as goal

pub returns : goal.returns
returns g c = by_seven g.P.Pieces.pushes g.met.P.Pieces.pushed_further c.push_str.ensures c.push_number.ensures c.push_str-2.ensures c.push_number-2.ensures c.push_str-3.ensures c.push_number-3.ensures c.push_str-4.ensures
