use Rattle.std.proofs.Common.{sym, ap, ◌∙◌}
use Rattle.rollout_rules.specs.declared.op.Entry.TheVariants as entry
use Rattle.rollout_log.specs.Lines.{is_same}
use Rattle.rollout_log.proofs.lines.is_done.Goals as goal

pub returns-in-Begin : goal.returns-in-Begin
returns-in-Begin c = ap (is_same (entry.Done c.args.op)) (sym c.in-Begin.is)

pub returns-in-Done : goal.returns-in-Done
returns-in-Done c = c.is_same_op.ensures ∙ ap (is_same (entry.Done c.args.op)) (sym c.in-Done.is)
