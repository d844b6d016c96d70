use Rattle.text_writer.proofs.Pushing.{both}
use Rattle.plan_texts.proofs.op_lines.push_chain.Goals as goal

pub returns : goal.returns
returns g c = both g.P.Pieces.pushes g.met.P.Pieces.pushed_further c.push_str.ensures c.push_number.ensures
