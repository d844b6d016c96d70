use Rattle.std.proofs.Common.{refl}
use Rattle.wan_edge.specs.Streams.{Rose}
use Rattle.agent_service.proofs.Rows.{came_waited, never_fleet, none_waited, seat_waited}
use Rattle.agent_service.proofs.guests.wake.Goals as goal

pub seat_next-requires-clause-comes : goal.seat_next-requires-clause-comes
seat_next-requires-clause-comes g c = came_waited (g.F.Fleet.told c.args.fleet.now).coming c.args.seated.now.items c.args.woken c.in-Came.is c.requires.woken

pub hear-requires-clause-place : goal.hear-requires-clause-place
hear-requires-clause-place g c = seat_waited (g.F.Fleet.told c.args.fleet.now).coming c.args.seated.now.items c.args.woken c.in-Seat.place c.in-Seat.is c.requires.woken

pub hear-requires-clause-even : goal.hear-requires-clause-even
hear-requires-clause-even g c = c.requires.seats.even

pub returns-in-Seat-clause-cause : goal.returns-in-Seat-clause-cause
returns-in-Seat-clause-cause g c = never_fleet c.hear.result (Rose (g.F.Fleet.told c.args.fleet.now).faults (g.F.Fleet.told c.hear.new.fleet).faults) c.hear.ensures.cause

pub returns-in-NoMore-clause-turn : goal.returns-in-NoMore-clause-turn
returns-in-NoMore-clause-turn g c = (refl, none_waited (g.F.Fleet.told c.args.fleet.now).coming c.args.seated.now.items c.args.woken c.in-NoMore.is c.requires.woken)
