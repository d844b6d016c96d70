use Rattle.std.proofs.Common.{◌∙◌, sym}
use Rattle.lossy_link.specs.Names.{name_at}
use Rattle.lossy_link.proofs.Called.{called, not_called, stays}
use Rattle.lossy_link.proofs.memory_fleet.names.Names.has_name.Goals as goal

pub returns-clause-yes : goal.returns-clause-yes
returns-clause-yes c is = stays c.args.self.now c.args.switch c.args.name.now (sym c.is_named.ensures ∙ is)

pub returns-clause-own : goal.returns-clause-own
returns-clause-own c is = called (name_at c.args.self.now c.args.switch) c.args.name.now (sym c.is_named.ensures ∙ is)

pub returns-clause-no : goal.returns-clause-no
returns-clause-no c is = not_called (name_at c.args.self.now c.args.switch) c.args.name.now (sym c.is_named.ensures ∙ is)
