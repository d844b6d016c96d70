use Rattle.std.proofs.Common.{◌∙◌}
use Rattle.text_writer.proofs.Pushing.{said_so}
use Rattle.plan_texts.proofs.Cells.{tables-long}
use Rattle.plan_texts.proofs.Lines.{table-totals}
use Rattle.plan_texts.proofs.Pushes.{by_three}
use Rattle.plan_texts.proofs.load_lines.push_table_line.Goals as goal

pub push_totals-requires-clause-taken : goal.push_totals-requires-clause-taken
push_totals-requires-clause-taken g c = tables-long c.args.problem.now c.args.plan.now c.args.rows.now.taken 0 c.args.switch c.last_stage.result c.requires.checked c.requires.taken c.requires.switch c.last_stage.ensures

pub push_totals-requires-clause-most : goal.push_totals-requires-clause-most
push_totals-requires-clause-most g c = tables-long c.args.problem.now c.args.plan.now c.args.rows.now.most 1 c.args.switch c.last_stage.result c.requires.checked c.requires.most c.requires.switch c.last_stage.ensures

pub returns : goal.returns
returns g c =
    by_three g.P.Pieces.pushes g.met.P.Pieces.pushed_further c.push_str.ensures (c.push_switch.ensures c.args.problem.now c.requires.names)
    (said_so g.P.Pieces.pushes
    (table-totals c.args.problem.now c.args.plan.now c.requires.checked c.args.switch c.args.rows.now.taken c.args.rows.now.most c.from-size.result c.last_stage.result c.last_stage.ensures c.requires.switch c.requires.taken c.requires.most (c.from-size.ensures ∙ c.table.ensures))
    c.push_totals.ensures)
