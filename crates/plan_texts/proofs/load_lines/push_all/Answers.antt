use Rattle.std.proofs.Common.{ap₂}
use Rattle.text_writer.proofs.Pushing.{said_so}
use Rattle.plan_texts.specs.Loads.{loads_text, sizes_line}
use Rattle.plan_texts.proofs.Pushes.{by_four}
use Rattle.plan_texts.proofs.load_lines.push_all.Goals as goal

pub returns : goal.returns
unfolding loads_text
returns g c =
    by_four g.P.Pieces.pushes g.met.P.Pieces.pushed_further
    (said_so g.P.Pieces.pushes (ap₂ sizes_line c.last_stage.ensures c.scale_of.ensures) c.push_sizes.ensures)
    c.push_links.ensures c.push_tables.ensures c.push_fullest.ensures
