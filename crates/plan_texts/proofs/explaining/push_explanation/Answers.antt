use Rattle.text_writer.proofs.Pushing.{both}
use Rattle.plan_texts.specs.Explain.{explain_text}
use Rattle.plan_texts.proofs.explaining.push_explanation.Goals as goal

pub push_counts-requires : goal.push_counts-requires
push_counts-requires g c = c.requires.index

pub returns : goal.returns
unfolding explain_text
returns g c = both g.P.Pieces.pushes g.met.P.Pieces.pushed_further c.push_counts.ensures c.push_items.ensures
