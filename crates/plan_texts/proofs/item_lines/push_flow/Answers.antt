use Rattle.text_writer.proofs.Pushing.{at_value, both}
use Rattle.plan_texts.proofs.item_lines.push_flow.Goals as goal

pub returns : goal.returns
returns g c p are = both g.P.Pieces.pushes g.met.P.Pieces.pushed_further c.push_str.ensures (at_value g.P.Pieces.pushes (λ t. t) (c.flow.ensures p are) c.push_str-2.ensures)
