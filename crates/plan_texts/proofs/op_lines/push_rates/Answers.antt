use Rattle.plan_texts.proofs.Pushes.{by_four}
use Rattle.plan_texts.proofs.op_lines.push_rates.Goals as goal

pub returns : goal.returns
returns g c = by_four g.P.Pieces.pushes g.met.P.Pieces.pushed_further c.push_str.ensures c.push_contents.ensures c.push_str-2.ensures c.push_contents-2.ensures
