use Rattle.std.proofs.Common.{◌≡◌, ◌∙◌, None, length, vec_capacity, ap, refl, rules, arith}
use Rattle.fenced_agent.specs.Agents.{fenced_holding}
use Rattle.agent_service.specs.Services.{counted, first_table, guests_of, table_of}
use Rattle.agent_service.proofs.KeptRows.{all_kept, come_on, come_still, next_durable, none_durable, none_kept, turn_kept}
use Rattle.agent_service.proofs.Rows.{no_turn, nobody_even, nobody_seated, seats_of, turn_lighter, turn_more}
use Rattle.agent_service.proofs.kept.keep_each.Goals as goal

pub loop-service-init : goal.loop-service-init
loop-service-init g c = record {
  so_far = no_turn _ _ _ (nobody_seated c.args.agent.now c.args.seated.now.items c.args.talks.now.items (guests_of (g.F.Fleet.told c.args.fleet.now)) c.requires.nobody.0 c.requires.nobody.1);
  even = nobody_even c.args.agent.now c.args.seated.now.items c.args.talks.now.items (guests_of (g.F.Fleet.told c.args.fleet.now)) c.requires.nobody.0 c.requires.nobody.1;
  within = omega arith;
  guest_room = c.requires.places.0;
  talk_room = c.requires.places.1;
  kept = c.requires.kept;
  run = come_still g.D.Disk.told c.args.disk.now c.args.place (fenced_holding c.args.agent.now) (g.met.D.Disk.only_now c.args.disk.now) c.requires.kept;
  told = refl;
  visiting = omega (arith, ap length c.requires.nobody.0);
  waiting = refl;
  kept_ports = refl;
  lent = refl;
  named = refl;
  count = omega arith;
  disk_count = omega arith;
}

pub keep_turn-requires-clause-seats : goal.keep_turn-requires-clause-seats
keep_turn-requires-clause-seats g c =
    let i = c.loop-service.invariant in
    let table = table_of c.loop-service.agent c.loop-service.seated.items c.loop-service.talks.items (guests_of (g.F.Fleet.told c.loop-service.fleet)) c.loop-service.service in
    seats_of table (vec_capacity c.loop-service.seated) (vec_capacity c.loop-service.talks) (g.F.Fleet.told c.loop-service.fleet).visiting c.args.guests i.even i.guest_room i.talk_room (omega (arith, i.visiting)) (omega (arith, c.loop-service-test)) (omega (arith, c.ranges.guests.fits))

pub keep_turn-requires-clause-kept : goal.keep_turn-requires-clause-kept
keep_turn-requires-clause-kept g c = c.loop-service.invariant.kept

pub loop-service-preserved : goal.loop-service-preserved
loop-service-preserved g c =
    let i = c.loop-service.invariant in
    let before = table_of c.loop-service.agent c.loop-service.seated.items c.loop-service.talks.items (guests_of (g.F.Fleet.told c.loop-service.fleet)) c.loop-service.service in
    let now = table_of c.keep_turn.new.agent c.keep_turn.new.seated.items c.keep_turn.new.talks.items (guests_of (g.F.Fleet.told c.keep_turn.new.fleet)) c.loop-service.service in
    let found = c.in_ok-next.next in
    let kept = c.in-Some.kept in
    let next = turn_kept (record { source = g.F.Guest.Source.told; sink = g.F.Guest.Sink.told }) before now found kept c.in-Some.is c.in_ok-next.ensures.turn in
    let lightens = turn_lighter (record { source = g.F.Guest.Source.told; sink = g.F.Guest.Sink.told }) before (counted now kept.1) i.even next in
    record {
      so_far = turn_more (record { source = g.F.Guest.Source.told; sink = g.F.Guest.Sink.told }) (first_table c.args.agent.now (guests_of (g.F.Fleet.told c.args.fleet.now))) before (counted now kept.1) i.so_far next;
      even = lightens.keeps;
      within = omega (arith, lightens.one, c.loop-service-test);
      guest_room = omega (arith, i.guest_room, c.keep_turn.ensures.places.0);
      talk_room = omega (arith, i.talk_room, c.keep_turn.ensures.places.1);
      kept = next_durable (g.D.Disk.told c.keep_turn.new.disk) c.loop-service.here found kept (fenced_holding c.keep_turn.new.agent) c.in-Some.is c.in_ok-next.ensures.kept;
      run = come_on g.D.Disk.told c.args.disk.now c.loop-service.disk c.keep_turn.new.disk (record { source = g.F.Guest.Source.told; sink = g.F.Guest.Sink.told }) (first_table c.args.agent.now (guests_of (g.F.Fleet.told c.args.fleet.now))) before i.so_far i.told (g.met.D.Disk.shows_one c.loop-service.disk) (g.met.D.Disk.counts_now c.loop-service.disk) i.run c.keep_turn.ensures.any_moment;
      told = c.keep_turn.ensures.told ∙ i.told;
      visiting = omega (arith, i.visiting, c.keep_turn.ensures.visiting);
      waiting = c.keep_turn.ensures.ports.0 ∙ i.waiting;
      kept_ports = c.keep_turn.ensures.ports.1 ∙ i.kept_ports;
      lent = c.keep_turn.ensures.ports.2 ∙ i.lent;
      named = c.keep_turn.ensures.ports.3 ∙ i.named;
      count = omega (arith, i.count, c.keep_turn.ensures.count);
      disk_count = omega (arith, i.disk_count, c.keep_turn.ensures.disk_count);
    }

pub loop-service-smaller : goal.loop-service-smaller
loop-service-smaller g c =
    let before = table_of c.loop-service.agent c.loop-service.seated.items c.loop-service.talks.items (guests_of (g.F.Fleet.told c.loop-service.fleet)) c.loop-service.service in
    let now = table_of c.keep_turn.new.agent c.keep_turn.new.seated.items c.keep_turn.new.talks.items (guests_of (g.F.Fleet.told c.keep_turn.new.fleet)) c.loop-service.service in
    let kept = c.in-Some.kept in
    let next = turn_kept (record { source = g.F.Guest.Source.told; sink = g.F.Guest.Sink.told }) before now c.in_ok-next.next kept c.in-Some.is c.in_ok-next.ensures.turn in
    let lightens = turn_lighter (record { source = g.F.Guest.Source.told; sink = g.F.Guest.Sink.told }) before (counted now kept.1) c.loop-service.invariant.even next in
    lightens.lighter c.args.guests (omega (arith, c.loop-service-test))

-- a fault
pub returns-in_err-next-clause-any_moment : goal.returns-in_err-next-clause-any_moment
returns-in_err-next-clause-any_moment g c =
    let i = c.loop-service.invariant in
    come_on g.D.Disk.told c.args.disk.now c.loop-service.disk c.keep_turn.new.disk (record { source = g.F.Guest.Source.told; sink = g.F.Guest.Sink.told }) (first_table c.args.agent.now (guests_of (g.F.Fleet.told c.args.fleet.now))) (table_of c.loop-service.agent c.loop-service.seated.items c.loop-service.talks.items (guests_of (g.F.Fleet.told c.loop-service.fleet)) c.loop-service.service)
    i.so_far i.told (g.met.D.Disk.shows_one c.loop-service.disk) (g.met.D.Disk.counts_now c.loop-service.disk) i.run c.keep_turn.ensures.any_moment

pub returns-in_err-next-clause-visiting : goal.returns-in_err-next-clause-visiting
returns-in_err-next-clause-visiting g c = omega (arith, c.loop-service.invariant.visiting, c.keep_turn.ensures.visiting)

-- no more come
pub returns-in_default-clause-any_moment : goal.returns-in_default-clause-any_moment
returns-in_default-clause-any_moment g c =
    let i = c.loop-service.invariant in
    come_on g.D.Disk.told c.args.disk.now c.loop-service.disk c.keep_turn.new.disk (record { source = g.F.Guest.Source.told; sink = g.F.Guest.Sink.told }) (first_table c.args.agent.now (guests_of (g.F.Fleet.told c.args.fleet.now))) (table_of c.loop-service.agent c.loop-service.seated.items c.loop-service.talks.items (guests_of (g.F.Fleet.told c.loop-service.fleet)) c.loop-service.service)
    i.so_far i.told (g.met.D.Disk.shows_one c.loop-service.disk) (g.met.D.Disk.counts_now c.loop-service.disk) i.run c.keep_turn.ensures.any_moment

pub returns-in_default-clause-keeps : goal.returns-in_default-clause-keeps
returns-in_default-clause-keeps g c =
    let found = c.in_ok-next.next in
    let none : found ≡ None = search rules in
    none_kept (record { source = g.F.Guest.Source.told; sink = g.F.Guest.Sink.told }) (first_table c.args.agent.now (guests_of (g.F.Fleet.told c.args.fleet.now))) (table_of c.loop-service.agent c.loop-service.seated.items c.loop-service.talks.items (guests_of (g.F.Fleet.told c.loop-service.fleet)) c.loop-service.service)
    (table_of c.keep_turn.new.agent c.keep_turn.new.seated.items c.keep_turn.new.talks.items (guests_of (g.F.Fleet.told c.keep_turn.new.fleet)) c.loop-service.service) c.args.guests found c.loop-service.invariant.so_far (omega (arith, c.loop-service-test)) none c.in_ok-next.ensures.turn

pub returns-in_default-clause-durable : goal.returns-in_default-clause-durable
returns-in_default-clause-durable g c =
    let found = c.in_ok-next.next in
    let none : found ≡ None = search rules in
    (c.loop-service.here, none_durable (g.D.Disk.told c.keep_turn.new.disk) c.loop-service.here found (fenced_holding c.keep_turn.new.agent) none c.in_ok-next.ensures.kept)

pub returns-in_default-clause-visiting : goal.returns-in_default-clause-visiting
returns-in_default-clause-visiting g c = omega (arith, c.loop-service.invariant.visiting, c.keep_turn.ensures.visiting)

-- all that were asked for were served
pub returns-clause-keeps : goal.returns-clause-keeps
returns-clause-keeps g c = all_kept (record { source = g.F.Guest.Source.told; sink = g.F.Guest.Sink.told }) (first_table c.args.agent.now (guests_of (g.F.Fleet.told c.args.fleet.now))) (table_of c.loop-service.agent c.loop-service.seated.items c.loop-service.talks.items (guests_of (g.F.Fleet.told c.loop-service.fleet)) c.loop-service.service) c.args.guests c.loop-service.invariant.so_far c.loop-service.invariant.within (omega (arith, c.loop-service-test))

pub returns-clause-durable : goal.returns-clause-durable
returns-clause-durable g c = (c.loop-service.here, c.loop-service.invariant.kept)
