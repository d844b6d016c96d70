use Rattle.text_writer.proofs.Pushing.{said_so}
use Rattle.plan_texts.proofs.Cells.{links-long}
use Rattle.plan_texts.proofs.Lines.{link-totals}
use Rattle.plan_texts.proofs.Pushes.{by_three}
use Rattle.plan_texts.proofs.load_lines.push_link_line.Goals as goal

pub push_totals-requires-clause-taken : goal.push_totals-requires-clause-taken
push_totals-requires-clause-taken g c = links-long c.args.problem.now c.args.plan.now c.args.rows.now.taken 0 c.args.link c.last_stage.result c.requires.checked c.requires.taken c.requires.link c.last_stage.ensures

pub push_totals-requires-clause-most : goal.push_totals-requires-clause-most
push_totals-requires-clause-most g c = links-long c.args.problem.now c.args.plan.now c.args.rows.now.most 1 c.args.link c.last_stage.result c.requires.checked c.requires.most c.requires.link c.last_stage.ensures

pub returns : goal.returns
returns g c =
    by_three g.P.Pieces.pushes g.met.P.Pieces.pushed_further c.push_str.ensures c.push_link.ensures
    (said_so g.P.Pieces.pushes
    (link-totals c.args.problem.now c.args.plan.now c.requires.checked c.args.link c.args.rows.now.taken c.args.rows.now.most c.room_of-room.result c.last_stage.result c.last_stage.ensures c.requires.link c.requires.taken c.requires.most c.room_of-room.ensures)
    c.push_totals.ensures)
