use Rattle.std.proofs.Common.{◌++◌, sym, ap, ◌∙◌}
use Rattle.std.proofs.lemmas.Result.{on_ok_weaker}
use Rattle.rollout_rules.specs.declared.op.Entry.{Entry}
use Rattle.rollout_log.specs.Lines.{entry_line}
use Rattle.rollout_log.proofs.lines.push_entry.Goals as goal

pub returns-in-Begin : goal.returns-in-Begin
returns-in-Begin c = on_ok_weaker c.push_begin.result (λ e. e ∙ ap (λ (entry : Entry). c.args.text.now ++ entry_line c.args.ms entry) (sym c.in-Begin.is)) c.push_begin.ensures

pub returns-in-Done : goal.returns-in-Done
returns-in-Done c = on_ok_weaker c.push_done.result (λ e. e ∙ ap (λ (entry : Entry). c.args.text.now ++ entry_line c.args.ms entry) (sym c.in-Done.is)) c.push_done.ensures
