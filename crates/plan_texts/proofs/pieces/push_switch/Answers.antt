use Rattle.text_writer.proofs.Pushing.{at_value}
use Rattle.plan_texts.proofs.pieces.push_switch.Goals as goal

pub returns : goal.returns
returns g c p are = at_value g.P.Pieces.pushes (λ t. t) (c.switch.ensures p are) c.push_str.ensures
