use Rattle.std.proofs.Common.{refl, vec_capacity, arith}
use Rattle.fenced_agent.specs.Agents.{fenced_holding}
use Rattle.agent_service.specs.Services.{guests_of, table_of}
use Rattle.agent_service.proofs.KeptRows.{come_still, kept_cause_since, kept_waited}
use Rattle.agent_service.proofs.Rows.{same_table, seats_known, woken_behind}
use Rattle.agent_service.proofs.kept.keep_turn.Goals as goal

pub keep_wake-requires-clause-seats : goal.keep_wake-requires-clause-seats
keep_wake-requires-clause-seats g c =
    seats_known c.args.seated.now.items c.args.talks.now.items c.args.service (vec_capacity c.args.seated.now) (vec_capacity c.args.talks.now) (g.F.Fleet.told c.args.fleet.now).visiting (g.F.Fleet.told c.wait.new.self).visiting c.wait.ensures.guests.2 c.requires.seats

pub keep_wake-requires-clause-woken : goal.keep_wake-requires-clause-woken
keep_wake-requires-clause-woken g c =
    woken_behind (g.F.Fleet.told c.args.fleet.now).coming (g.F.Fleet.told c.wait.new.self).coming c.as_slice.result.now c.args.seated.now.items c.in-Ok.woken c.wait.ensures.guests.0 c.as_slice.ensures.value c.in-Ok.ensures.woken

-- a wait changes nothing
pub returns-in-Ok-clause-turn : goal.returns-in-Ok-clause-turn
returns-in-Ok-clause-turn g c =
    let before = table_of c.args.agent.now c.args.seated.now.items c.args.talks.now.items (guests_of (g.F.Fleet.told c.args.fleet.now)) c.args.service in
    let waited = table_of c.args.agent.now c.args.seated.now.items c.args.talks.now.items (guests_of (g.F.Fleet.told c.wait.new.self)) c.args.service in
    let now = table_of c.keep_wake.new.agent c.keep_wake.new.seated.items c.keep_wake.new.talks.items (guests_of (g.F.Fleet.told c.keep_wake.new.fleet)) c.args.service in
    kept_waited (record { source = g.F.Guest.Source.told; sink = g.F.Guest.Sink.told }) before waited now c.keep_wake.result
    (same_table c.args.agent.now c.args.seated.now.items c.args.seated.now.items c.args.talks.now.items c.args.talks.now.items (g.F.Fleet.told c.args.fleet.now).coming (g.F.Fleet.told c.wait.new.self).coming (g.F.Fleet.told c.args.fleet.now).served (g.F.Fleet.told c.wait.new.self).served c.args.service refl refl c.wait.ensures.guests.0 c.wait.ensures.guests.1) c.keep_wake.ensures.turn

pub returns-in-Ok-clause-visiting : goal.returns-in-Ok-clause-visiting
returns-in-Ok-clause-visiting g c = omega (arith, c.keep_wake.ensures.visiting, c.wait.ensures.guests.2)

pub returns-in-Ok-clause-cause : goal.returns-in-Ok-clause-cause
returns-in-Ok-clause-cause g c =
    kept_cause_since c.keep_wake.result (g.F.Fleet.told c.args.fleet.now).faults (g.F.Fleet.told c.wait.new.self).faults (g.F.Fleet.told c.keep_wake.new.fleet).faults (g.D.Disk.told c.args.disk.now).faults (g.D.Disk.told c.keep_wake.new.disk).faults c.wait.ensures.count c.keep_wake.ensures.cause

-- the fleet failed
pub returns-in-Err-clause-any_moment : goal.returns-in-Err-clause-any_moment
returns-in-Err-clause-any_moment g c = come_still g.D.Disk.told c.args.disk.now c.args.place (fenced_holding c.args.agent.now) (g.met.D.Disk.only_now c.args.disk.now) c.requires.kept

pub returns-in-Err-clause-visiting : goal.returns-in-Err-clause-visiting
returns-in-Err-clause-visiting g c = omega (arith, c.wait.ensures.guests.2)
