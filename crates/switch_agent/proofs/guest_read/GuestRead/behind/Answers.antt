use Rattle.std.proofs.Common.{◌∙◌, Option, sym, ap}
use Rattle.switch_agent.specs.Serving.{heard_by}
use Rattle.switch_agent.specs.declared.serve_fault.ServeFault.{ServeFault}
use Rattle.switch_agent.proofs.guest_read.GuestRead.behind.Goals as goal

pub returns-in-Some : goal.returns-in-Some
returns-in-Some c = sym (ap (λ (f : Option ServeFault). heard_by c.args.served.commands f c.args.reader.kept c.args.room) c.in-Some.is)

pub returns-in-None : goal.returns-in-None
returns-in-None c = c.on.ensures ∙ sym (ap (λ (f : Option ServeFault). heard_by c.args.served.commands f c.args.reader.kept c.args.room) c.in-None.is)
