use Rattle.plan_texts.proofs.Pushes.{by_five}
use Rattle.plan_texts.proofs.load_lines.push_sizes.Goals as goal

pub returns : goal.returns
returns g c = by_five g.P.Pieces.pushes g.met.P.Pieces.pushed_further c.push_str.ensures c.push_number.ensures c.push_str-2.ensures c.push_number-2.ensures c.push_str-3.ensures
