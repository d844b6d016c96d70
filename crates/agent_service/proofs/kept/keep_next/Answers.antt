use Rattle.fenced_agent.specs.Agents.{fenced_holding}
use Rattle.agent_service.specs.Services.{guests_of, table_of}
use Rattle.agent_service.proofs.KeptRows.{come_still, seats_durable, seats_kept}
use Rattle.agent_service.proofs.kept.keep_next.Goals as goal

pub sit_down-requires-clause-even : goal.sit_down-requires-clause-even
sit_down-requires-clause-even g c = c.requires.seats.even

pub sit_down-requires-clause-few : goal.sit_down-requires-clause-few
sit_down-requires-clause-few g c = c.requires.seats.few

pub sit_down-requires-clause-places : goal.sit_down-requires-clause-places
sit_down-requires-clause-places g c = (c.requires.seats.guest_room, c.requires.seats.talk_room)

pub sit_down-requires-clause-guests : goal.sit_down-requires-clause-guests
sit_down-requires-clause-guests g c = c.requires.seats.guest_more

pub sit_down-requires-clause-refused : goal.sit_down-requires-clause-refused
sit_down-requires-clause-refused g c = c.requires.seats.refused_more

pub sit_down-requires-clause-visiting : goal.sit_down-requires-clause-visiting
sit_down-requires-clause-visiting g c = c.requires.seats.known

pub returns-in-Ok-clause-turn : goal.returns-in-Ok-clause-turn
returns-in-Ok-clause-turn g c =
    let before = table_of c.args.agent.now c.args.seated.now.items c.args.talks.now.items (guests_of (g.F.Fleet.told c.args.fleet.now)) c.args.service in
    let now = table_of c.args.agent.now c.sit_down.new.seated.items c.sit_down.new.talks.items (guests_of (g.F.Fleet.told c.sit_down.new.fleet)) c.args.service in
    seats_kept (record { source = g.F.Guest.Source.told; sink = g.F.Guest.Sink.told }) before now c.args.place c.in-Ok.found c.with_place.result c.with_place.ensures c.requires.comes (c.in-Ok.ensures.sits c.args.agent.now)

pub returns-in-Ok-clause-kept : goal.returns-in-Ok-clause-kept
returns-in-Ok-clause-kept g c = seats_durable (g.D.Disk.told c.args.disk.now) c.args.place c.in-Ok.found c.with_place.result (fenced_holding c.args.agent.now) c.with_place.ensures c.requires.kept

-- the disk is as it was
pub returns-in-Ok-clause-any_moment : goal.returns-in-Ok-clause-any_moment
returns-in-Ok-clause-any_moment g c = come_still g.D.Disk.told c.args.disk.now c.args.place (fenced_holding c.args.agent.now) (g.met.D.Disk.only_now c.args.disk.now) c.requires.kept

pub returns-in-Err-clause-any_moment : goal.returns-in-Err-clause-any_moment
returns-in-Err-clause-any_moment g c = come_still g.D.Disk.told c.args.disk.now c.args.place (fenced_holding c.args.agent.now) (g.met.D.Disk.only_now c.args.disk.now) c.requires.kept
