use Rattle.std.proofs.Common.{inr, length, refl, ap, arith}
use Rattle.agent_service.specs.Services.{HearsOne, guests_of, table_of}
use Rattle.agent_service.specs.declared.service.ServiceFault.TheVariants.{Memory}
use Rattle.agent_service.proofs.Rows.{length_removed, not_fleet, rooms_removed, settled_is}
use Rattle.agent_service.proofs.guests.hear.Goals as goal

pub settle-now-requires-clause-places : goal.settle-now-requires-clause-places
settle-now-requires-clause-places g c =
    let seats = c.requires.seats in
    let guests = length_removed c.args.seated.now.items c.args.place c.requires.place in
    let talks = length_removed c.args.talks.now.items c.args.place (omega (arith, c.requires.place, c.requires.even)) in (
      omega (arith, guests, ap length c.remove-guest.ensures.items, c.remove-guest.ensures.capacity, seats.few, seats.guest_room),
      omega (arith, talks, ap length c.remove-talk.ensures.items, c.remove-talk.ensures.capacity, c.requires.even, seats.few, seats.talk_room),
    )

pub settle-now-requires-clause-guests : goal.settle-now-requires-clause-guests
settle-now-requires-clause-guests g c = c.requires.seats.guest_more

pub settle-now-requires-clause-commands : goal.settle-now-requires-clause-commands
settle-now-requires-clause-commands g c =
    let heard = c.serve_read-heard.ensures.heard in
    let rooms = rooms_removed c.args.talks.now.items c.args.place c.remove-talk.result (omega (arith, c.requires.place, c.requires.even)) c.remove-talk.ensures.value in
    omega (arith, rooms, heard.within, heard.hears.few, c.requires.seats.commands_more)

pub settle-now-requires-clause-refused : goal.settle-now-requires-clause-refused
settle-now-requires-clause-refused g c = c.requires.seats.refused_more

pub settle-now-requires-clause-visiting : goal.settle-now-requires-clause-visiting
settle-now-requires-clause-visiting g c = omega (arith, c.requires.place, c.requires.seats.known)

pub returns-then-wants_room-clause-stops : goal.returns-then-wants_room-clause-stops
returns-then-wants_room-clause-stops g c =
    let before = table_of c.args.agent.now c.args.seated.now.items c.args.talks.now.items (guests_of (g.F.Fleet.told c.args.fleet.now)) c.args.service in
    let hears_one : HearsOne (record { source = g.F.Guest.Source.told; sink = g.F.Guest.Sink.told }) before c.serve_read-heard.result (table_of c.serve_read-heard.new.agent c.settle-now.new.seated.items c.settle-now.new.talks.items (guests_of (g.F.Fleet.told c.settle-now.new.fleet)) c.settle-now.result) = record {
      place = c.args.place;
      guest = c.remove-guest.result;
      talk = c.remove-talk.result;
      sits = (c.requires.place, c.remove-guest.ensures.value);
      kept = (omega (arith, c.requires.place, c.requires.even), c.remove-talk.ensures.value);
      some = c.serve_read-heard.ensures.some;
      guest_now = c.serve_read-heard.new.guest;
      items = c.serve_read-heard.new.agent;
      hears = c.serve_read-heard.ensures.heard;
      read_cause = c.serve_read-heard.ensures.read_cause;
      write_cause = c.serve_read-heard.ensures.write_cause;
      few = c.keeps_few_items.ensures.few;
      behind = settled_is before c.args.place c.serve_read-heard.new.agent c.serve_read-heard.new.guest c.serve_read-heard.result c.remove-guest.new.self.items c.settle-now.new.seated.items c.remove-talk.new.self.items c.settle-now.new.talks.items
          (g.F.Fleet.told c.settle-now.new.fleet).coming (g.F.Fleet.told c.settle-now.new.fleet).served c.settle-now.result c.remove-guest.ensures.items c.remove-talk.ensures.items c.settle-now.ensures.seated c.settle-now.ensures.talks
          c.settle-now.ensures.coming c.settle-now.ensures.back c.settle-now.ensures.counted;
    } in
    (c.serve_read-heard.result, c.settle-now.result, c.wants_room.ensures.yes c.if-wants_room.true, hears_one)

pub returns-then-wants_room-clause-cause : goal.returns-then-wants_room-clause-cause
returns-then-wants_room-clause-cause g c = not_fleet Memory refl

pub returns-then-wants_room-clause-visiting : goal.returns-then-wants_room-clause-visiting
returns-then-wants_room-clause-visiting g c =
    omega (arith, c.settle-now.ensures.visiting, ap length c.remove-guest.ensures.items, length_removed c.args.seated.now.items c.args.place c.requires.place)

pub returns-clause-turn : goal.returns-clause-turn
returns-clause-turn g c =
    let before = table_of c.args.agent.now c.args.seated.now.items c.args.talks.now.items (guests_of (g.F.Fleet.told c.args.fleet.now)) c.args.service in
    let hears_one : HearsOne (record { source = g.F.Guest.Source.told; sink = g.F.Guest.Sink.told }) before c.serve_read-heard.result (table_of c.serve_read-heard.new.agent c.settle-now.new.seated.items c.settle-now.new.talks.items (guests_of (g.F.Fleet.told c.settle-now.new.fleet)) c.settle-now.result) = record {
      place = c.args.place;
      guest = c.remove-guest.result;
      talk = c.remove-talk.result;
      sits = (c.requires.place, c.remove-guest.ensures.value);
      kept = (omega (arith, c.requires.place, c.requires.even), c.remove-talk.ensures.value);
      some = c.serve_read-heard.ensures.some;
      guest_now = c.serve_read-heard.new.guest;
      items = c.serve_read-heard.new.agent;
      hears = c.serve_read-heard.ensures.heard;
      read_cause = c.serve_read-heard.ensures.read_cause;
      write_cause = c.serve_read-heard.ensures.write_cause;
      few = c.keeps_few_items.ensures.few;
      behind = settled_is before c.args.place c.serve_read-heard.new.agent c.serve_read-heard.new.guest c.serve_read-heard.result c.remove-guest.new.self.items c.settle-now.new.seated.items c.remove-talk.new.self.items c.settle-now.new.talks.items
          (g.F.Fleet.told c.settle-now.new.fleet).coming (g.F.Fleet.told c.settle-now.new.fleet).served c.settle-now.result c.remove-guest.ensures.items c.remove-talk.ensures.items c.settle-now.ensures.seated c.settle-now.ensures.talks
          c.settle-now.ensures.coming c.settle-now.ensures.back c.settle-now.ensures.counted;
    } in
    inr (record { heard = c.serve_read-heard.result; found = c.wants_room.ensures.no c.if-wants_room.false; hears = hears_one })

pub returns-clause-visiting : goal.returns-clause-visiting
returns-clause-visiting g c =
    omega (arith, c.settle-now.ensures.visiting, ap length c.remove-guest.ensures.items, length_removed c.args.seated.now.items c.args.place c.requires.place)
