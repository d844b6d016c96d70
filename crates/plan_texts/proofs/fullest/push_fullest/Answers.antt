use Rattle.text_writer.proofs.Pushing.{both}
use Rattle.plan_texts.proofs.fullest.push_fullest.Goals as goal

pub returns : goal.returns
returns g c = both g.P.Pieces.pushes g.met.P.Pieces.pushed_further c.push_str.ensures c.push_found.ensures
