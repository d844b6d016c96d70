use Rattle.std.proofs.Common.{◌≡◌, ◌∙◌, None, length, vec_capacity, ap, refl, rules, arith}
use Rattle.wan_edge.proofs.Faults.{rose_since}
use Rattle.agent_service.specs.Services.{counted, first_table, guests_of, table_of}
use Rattle.agent_service.proofs.Rows.{all_served, found_turn, no_more, no_turn, nobody_even, nobody_seated, seats_of, stopped, turn_lighter, turn_more}
use Rattle.agent_service.proofs.guests.serve_seated.Goals as goal

pub loop-service-init : goal.loop-service-init
loop-service-init g c = record {
  so_far = no_turn _ _ _ (nobody_seated c.args.agent.now c.args.seated.now.items c.args.talks.now.items (guests_of (g.F.Fleet.told c.args.fleet.now)) c.requires.nobody.0 c.requires.nobody.1);
  even = nobody_even c.args.agent.now c.args.seated.now.items c.args.talks.now.items (guests_of (g.F.Fleet.told c.args.fleet.now)) c.requires.nobody.0 c.requires.nobody.1;
  within = omega arith;
  guest_room = c.requires.places.0;
  talk_room = c.requires.places.1;
  visiting = omega (arith, ap length c.requires.nobody.0);
  waiting = refl;
  kept = refl;
  lent = refl;
  named = refl;
  count = omega arith;
}

pub take_turn-requires : goal.take_turn-requires
take_turn-requires g c =
    let i = c.loop-service.invariant in
    let table = table_of c.loop-service.agent c.loop-service.seated.items c.loop-service.talks.items (guests_of (g.F.Fleet.told c.loop-service.fleet)) c.loop-service.service in
    seats_of table (vec_capacity c.loop-service.seated) (vec_capacity c.loop-service.talks) (g.F.Fleet.told c.loop-service.fleet).visiting c.args.guests i.even i.guest_room i.talk_room (omega (arith, i.visiting)) (omega (arith, c.loop-service-test)) (omega (arith, c.ranges.guests.fits))

pub loop-service-preserved : goal.loop-service-preserved
loop-service-preserved g c =
    let i = c.loop-service.invariant in
    let before = table_of c.loop-service.agent c.loop-service.seated.items c.loop-service.talks.items (guests_of (g.F.Fleet.told c.loop-service.fleet)) c.loop-service.service in
    let now = table_of c.take_turn.new.agent c.take_turn.new.seated.items c.take_turn.new.talks.items (guests_of (g.F.Fleet.told c.take_turn.new.fleet)) c.loop-service.service in
    let next = found_turn (record { source = g.F.Guest.Source.told; sink = g.F.Guest.Sink.told }) before now c.in-Ok.next c.in-Some.after c.in-Some.is c.in-Ok.ensures.turn in
    let lightens = turn_lighter (record { source = g.F.Guest.Source.told; sink = g.F.Guest.Sink.told }) before (counted now c.in-Some.after) i.even next in
    record {
      so_far = turn_more (record { source = g.F.Guest.Source.told; sink = g.F.Guest.Sink.told }) (first_table c.args.agent.now (guests_of (g.F.Fleet.told c.args.fleet.now))) before (counted now c.in-Some.after) i.so_far next;
      even = lightens.keeps;
      within = omega (arith, lightens.one, c.loop-service-test);
      guest_room = omega (arith, i.guest_room, c.take_turn.ensures.places.0);
      talk_room = omega (arith, i.talk_room, c.take_turn.ensures.places.1);
      visiting = omega (arith, i.visiting, c.take_turn.ensures.visiting);
      waiting = c.take_turn.ensures.ports.0 ∙ i.waiting;
      kept = c.take_turn.ensures.ports.1 ∙ i.kept;
      lent = c.take_turn.ensures.ports.2 ∙ i.lent;
      named = c.take_turn.ensures.ports.3 ∙ i.named;
      count = omega (arith, i.count, c.take_turn.ensures.count);
    }

pub loop-service-smaller : goal.loop-service-smaller
loop-service-smaller g c =
    let before = table_of c.loop-service.agent c.loop-service.seated.items c.loop-service.talks.items (guests_of (g.F.Fleet.told c.loop-service.fleet)) c.loop-service.service in
    let now = table_of c.take_turn.new.agent c.take_turn.new.seated.items c.take_turn.new.talks.items (guests_of (g.F.Fleet.told c.take_turn.new.fleet)) c.loop-service.service in
    let next = found_turn (record { source = g.F.Guest.Source.told; sink = g.F.Guest.Sink.told }) before now c.in-Ok.next c.in-Some.after c.in-Some.is c.in-Ok.ensures.turn in
    let lightens = turn_lighter (record { source = g.F.Guest.Source.told; sink = g.F.Guest.Sink.told }) before (counted now c.in-Some.after) c.loop-service.invariant.even next in
    lightens.lighter c.args.guests (omega (arith, c.loop-service-test))

-- all that were asked for were served
pub returns-clause-served : goal.returns-clause-served
returns-clause-served g c =
    let i = c.loop-service.invariant in
    all_served (record { source = g.F.Guest.Source.told; sink = g.F.Guest.Sink.told }) (first_table c.args.agent.now (guests_of (g.F.Fleet.told c.args.fleet.now))) (table_of c.loop-service.agent c.loop-service.seated.items c.loop-service.talks.items (guests_of (g.F.Fleet.told c.loop-service.fleet)) c.loop-service.service) c.args.guests i.so_far i.within (omega (arith, c.loop-service-test))

-- no more come
pub returns-in_default-clause-served : goal.returns-in_default-clause-served
returns-in_default-clause-served g c =
    let none : c.in-Ok.next ≡ None = search rules in
    no_more (record { source = g.F.Guest.Source.told; sink = g.F.Guest.Sink.told }) (first_table c.args.agent.now (guests_of (g.F.Fleet.told c.args.fleet.now))) (table_of c.loop-service.agent c.loop-service.seated.items c.loop-service.talks.items (guests_of (g.F.Fleet.told c.loop-service.fleet)) c.loop-service.service)
    (table_of c.take_turn.new.agent c.take_turn.new.seated.items c.take_turn.new.talks.items (guests_of (g.F.Fleet.told c.take_turn.new.fleet)) c.loop-service.service) c.args.guests c.loop-service.invariant.so_far (omega (arith, c.loop-service-test)) c.in-Ok.next none c.in-Ok.ensures.turn

pub returns-in_default-clause-visiting : goal.returns-in_default-clause-visiting
returns-in_default-clause-visiting g c = omega (arith, c.loop-service.invariant.visiting, c.take_turn.ensures.visiting)

-- there was a fault
pub returns-in-Err-clause-served : goal.returns-in-Err-clause-served
returns-in-Err-clause-served g c =
    stopped (record { source = g.F.Guest.Source.told; sink = g.F.Guest.Sink.told }) (first_table c.args.agent.now (guests_of (g.F.Fleet.told c.args.fleet.now))) (table_of c.loop-service.agent c.loop-service.seated.items c.loop-service.talks.items (guests_of (g.F.Fleet.told c.loop-service.fleet)) c.loop-service.service)
    (table_of c.take_turn.new.agent c.take_turn.new.seated.items c.take_turn.new.talks.items (guests_of (g.F.Fleet.told c.take_turn.new.fleet)) c.loop-service.service) c.args.guests c.loop-service.invariant.so_far (omega (arith, c.loop-service-test)) c.in-Err.why c.in-Err.ensures.stops

pub returns-in-Err-clause-visiting : goal.returns-in-Err-clause-visiting
returns-in-Err-clause-visiting g c = omega (arith, c.loop-service.invariant.visiting, c.take_turn.ensures.visiting)

pub returns-in-Err-clause-cause : goal.returns-in-Err-clause-cause
returns-in-Err-clause-cause g c = λ is. rose_since (g.F.Fleet.told c.args.fleet.now).faults (g.F.Fleet.told c.loop-service.fleet).faults (g.F.Fleet.told c.take_turn.new.fleet).faults c.loop-service.invariant.count (c.in-Err.ensures.cause is)
