use Rattle.std.proofs.Common.{sym, ap}
use Rattle.agent_service.specs.KeptServices.{at_place}
use Rattle.agent_service.proofs.kept.with_place.Goals as goal

pub returns-in-Some : goal.returns-in-Some
returns-in-Some c = ap (at_place c.args.place) (sym c.in-Some.is)

pub returns-in-None : goal.returns-in-None
returns-in-None c = ap (at_place c.args.place) (sym c.in-None.is)
