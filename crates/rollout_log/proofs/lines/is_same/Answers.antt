use Rattle.std.proofs.Common.{sym, ap, ◌∙◌}
use Rattle.rollout_rules.specs.declared.op.Entry.{Entry}
use Rattle.rollout_log.specs.Lines.{is_same}
use Rattle.rollout_log.proofs.lines.is_same.Goals as goal

pub returns-in-Begin : goal.returns-in-Begin
returns-in-Begin c = c.is_begin.ensures ∙ ap (λ (one : Entry). is_same one c.args.other) (sym c.in-Begin.is)

pub returns-in-Done : goal.returns-in-Done
returns-in-Done c = c.is_done.ensures ∙ ap (λ (one : Entry). is_same one c.args.other) (sym c.in-Done.is)
