use Rattle.agent_service.specs.Services.{guests_of, table_of}
use Rattle.agent_service.proofs.Rows.{same_table, seats_taken}
use Rattle.agent_service.proofs.guests.seat_next.Goals as goal

pub sit_down-requires-clause-even : goal.sit_down-requires-clause-even
sit_down-requires-clause-even g c = c.requires.seats.even

pub sit_down-requires-clause-few : goal.sit_down-requires-clause-few
sit_down-requires-clause-few g c = c.requires.seats.few

pub sit_down-requires-clause-places : goal.sit_down-requires-clause-places
sit_down-requires-clause-places g c = (c.requires.seats.guest_room, c.requires.seats.talk_room)

pub sit_down-requires-clause-guests : goal.sit_down-requires-clause-guests
sit_down-requires-clause-guests g c = c.requires.seats.guest_more

pub sit_down-requires-clause-refused : goal.sit_down-requires-clause-refused
sit_down-requires-clause-refused g c = c.requires.seats.refused_more

pub sit_down-requires-clause-visiting : goal.sit_down-requires-clause-visiting
sit_down-requires-clause-visiting g c = c.requires.seats.known

pub returns-in-Ok-clause-turn : goal.returns-in-Ok-clause-turn
returns-in-Ok-clause-turn g c =
    let before = table_of c.args._agent.now c.args.seated.now.items c.args.talks.now.items (guests_of (g.F.Fleet.told c.args.fleet.now)) c.args.service in
    let now = table_of c.args._agent.now c.sit_down.new.seated.items c.sit_down.new.talks.items (guests_of (g.F.Fleet.told c.sit_down.new.fleet)) c.args.service in
    seats_taken (record { source = g.F.Guest.Source.told; sink = g.F.Guest.Sink.told }) before now c.in-Ok.found c.requires.comes (c.in-Ok.ensures.sits c.args._agent.now)

pub returns-in-Err-clause-stops : goal.returns-in-Err-clause-stops
returns-in-Err-clause-stops g c =
    let still = c.in-Err.ensures.still in
    same_table c.args._agent.now c.args.seated.now.items c.sit_down.new.seated.items c.args.talks.now.items c.sit_down.new.talks.items (g.F.Fleet.told c.args.fleet.now).coming (g.F.Fleet.told c.sit_down.new.fleet).coming (g.F.Fleet.told c.args.fleet.now).served (g.F.Fleet.told c.sit_down.new.fleet).served c.args.service still.0 still.1 still.2 still.3

pub returns-in-Err-clause-cause : goal.returns-in-Err-clause-cause
returns-in-Err-clause-cause g c = λ is. c.in-Err.ensures.cause
