use Rattle.std.proofs.Common.{◌∙◌, sym}
use Rattle.switch_ports.proofs.Lateness.{due_none}
use Rattle.switch_ports.proofs.due.add_due.Goals as goal

pub returns-then-is_late : goal.returns-then-is_late
returns-then-is_late g c = due_none c.args.due.now.items c.args.session.now (sym c.is_late.ensures ∙ c.if-is_late.true)
