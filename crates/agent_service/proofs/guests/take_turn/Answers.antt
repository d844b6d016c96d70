use Rattle.std.proofs.Common.{refl, vec_capacity, arith}
use Rattle.agent_service.specs.Services.{guests_of, table_of}
use Rattle.agent_service.proofs.Rows.{cause_since, same_table, seats_known, stop_found, turn_found, woken_behind}
use Rattle.agent_service.proofs.guests.take_turn.Goals as goal

pub wake-requires-clause-seats : goal.wake-requires-clause-seats
wake-requires-clause-seats g c =
    seats_known c.args.seated.now.items c.args.talks.now.items c.args.service (vec_capacity c.args.seated.now) (vec_capacity c.args.talks.now) (g.F.Fleet.told c.args.fleet.now).visiting (g.F.Fleet.told c.wait.new.self).visiting c.wait.ensures.guests.2 c.requires

pub wake-requires-clause-woken : goal.wake-requires-clause-woken
wake-requires-clause-woken g c =
    woken_behind (g.F.Fleet.told c.args.fleet.now).coming (g.F.Fleet.told c.wait.new.self).coming c.as_slice.result.now c.args.seated.now.items c.in-Ok.woken c.wait.ensures.guests.0 c.as_slice.ensures.value c.in-Ok.ensures.woken

-- a wait changes nothing
pub returns-in-Ok-clause-turn : goal.returns-in-Ok-clause-turn
returns-in-Ok-clause-turn g c =
    let before = table_of c.args.agent.now c.args.seated.now.items c.args.talks.now.items (guests_of (g.F.Fleet.told c.args.fleet.now)) c.args.service in
    let waited = table_of c.args.agent.now c.args.seated.now.items c.args.talks.now.items (guests_of (g.F.Fleet.told c.wait.new.self)) c.args.service in
    let now = table_of c.wake.new.agent c.wake.new.seated.items c.wake.new.talks.items (guests_of (g.F.Fleet.told c.wake.new.fleet)) c.args.service in
    turn_found (record { source = g.F.Guest.Source.told; sink = g.F.Guest.Sink.told }) before waited now c.wake.result
    (same_table c.args.agent.now c.args.seated.now.items c.args.seated.now.items c.args.talks.now.items c.args.talks.now.items (g.F.Fleet.told c.args.fleet.now).coming (g.F.Fleet.told c.wait.new.self).coming (g.F.Fleet.told c.args.fleet.now).served (g.F.Fleet.told c.wait.new.self).served c.args.service refl refl c.wait.ensures.guests.0 c.wait.ensures.guests.1) c.wake.ensures.turn

pub returns-in-Ok-clause-stops : goal.returns-in-Ok-clause-stops
returns-in-Ok-clause-stops g c =
    let before = table_of c.args.agent.now c.args.seated.now.items c.args.talks.now.items (guests_of (g.F.Fleet.told c.args.fleet.now)) c.args.service in
    let waited = table_of c.args.agent.now c.args.seated.now.items c.args.talks.now.items (guests_of (g.F.Fleet.told c.wait.new.self)) c.args.service in
    let now = table_of c.wake.new.agent c.wake.new.seated.items c.wake.new.talks.items (guests_of (g.F.Fleet.told c.wake.new.fleet)) c.args.service in
    stop_found (record { source = g.F.Guest.Source.told; sink = g.F.Guest.Sink.told }) before waited now c.wake.result
    (same_table c.args.agent.now c.args.seated.now.items c.args.seated.now.items c.args.talks.now.items c.args.talks.now.items (g.F.Fleet.told c.args.fleet.now).coming (g.F.Fleet.told c.wait.new.self).coming (g.F.Fleet.told c.args.fleet.now).served (g.F.Fleet.told c.wait.new.self).served c.args.service refl refl c.wait.ensures.guests.0 c.wait.ensures.guests.1) c.wake.ensures.stops

pub returns-in-Ok-clause-visiting : goal.returns-in-Ok-clause-visiting
returns-in-Ok-clause-visiting g c = omega (arith, c.wake.ensures.visiting, c.wait.ensures.guests.2)

pub returns-in-Ok-clause-cause : goal.returns-in-Ok-clause-cause
returns-in-Ok-clause-cause g c = cause_since c.wake.result (g.F.Fleet.told c.args.fleet.now).faults (g.F.Fleet.told c.wait.new.self).faults (g.F.Fleet.told c.wake.new.fleet).faults c.wait.ensures.count c.wake.ensures.cause

pub returns-in-Err-clause-stops : goal.returns-in-Err-clause-stops
returns-in-Err-clause-stops g c = same_table c.args.agent.now c.args.seated.now.items c.args.seated.now.items c.args.talks.now.items c.args.talks.now.items (g.F.Fleet.told c.args.fleet.now).coming (g.F.Fleet.told c.wait.new.self).coming (g.F.Fleet.told c.args.fleet.now).served (g.F.Fleet.told c.wait.new.self).served c.args.service refl refl c.wait.ensures.guests.0 c.wait.ensures.guests.1

pub returns-in-Err-clause-visiting : goal.returns-in-Err-clause-visiting
returns-in-Err-clause-visiting g c = omega (arith, c.wait.ensures.guests.2)

pub returns-in-Err-clause-cause : goal.returns-in-Err-clause-cause
returns-in-Err-clause-cause g c = λ is. c.in-Err.ensures.cause
