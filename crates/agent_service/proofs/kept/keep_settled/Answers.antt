use Rattle.std.proofs.Common.{Option, Some, ap}
use Rattle.agent_state.specs.declared.place.Place.{Place}
use Rattle.agent_service.specs.declared.service.Service.{Service}
use Rattle.agent_service.proofs.kept.keep_settled.Goals as goal

some_kept : Place → Service → Option (Place × Service)
some_kept place count = Some (place, count)

pub returns-clause-found : goal.returns-clause-found
unfolding some_kept
returns-clause-found g c = (ap (some_kept c.args.place) c.settle-now.ensures.counted, c.wants_room.ensures.no c.if-wants_room.false)
