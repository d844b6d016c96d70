use Rattle.std.proofs.Common.{sym, ap}
use Rattle.held_service.specs.HeldText.{migration_of}
use Rattle.held_service.proofs.held_lines.migration_of.Goals as goal

pub returns-in-Some : goal.returns-in-Some
returns-in-Some c = ap migration_of (sym c.in-Some.is)

pub returns-in-None : goal.returns-in-None
returns-in-None c = ap migration_of (sym c.in-None.is)
