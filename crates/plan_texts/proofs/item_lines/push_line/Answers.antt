use Rattle.plan_texts.proofs.Pushes.{by_three}
use Rattle.plan_texts.proofs.item_lines.push_line.Goals as goal

pub returns : goal.returns
returns g c = by_three g.P.Pieces.pushes g.met.P.Pieces.pushed_further c.push_item_number.ensures c.push_what.ensures c.push_count.ensures
