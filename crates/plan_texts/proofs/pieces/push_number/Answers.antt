use Rattle.text_writer.proofs.Pushing.{at_value}
use Rattle.plan_texts.proofs.pieces.push_number.Goals as goal

pub returns : goal.returns
returns g c = at_value g.P.Pieces.pushes (λ t. t) c.format.ensures.text c.push_str.ensures
