use Rattle.std.proofs.Common.{◌≢◌, Option, Some, inr, length, refl, ap, arith}
use Rattle.fenced_agent.specs.Agents.{fenced_holding}
use Rattle.switch_agent.specs.declared.serve_fault.ServeFault.TheVariants.{Memory}
use Rattle.agent_state.specs.declared.place.Place.{Place}
use Rattle.agent_service.specs.KeptServices.{IsKeptBehind, KeepsTurn}
use Rattle.agent_service.specs.Services.{HearsOne, count_behind, guests_of, table_of}
use Rattle.agent_service.specs.declared.service.Service.{Service}
use Rattle.agent_service.proofs.KeptRows.{no_room_stops, settled_kept}
use Rattle.agent_service.proofs.Rows.{length_removed, rooms_removed, settled_is}
use Rattle.agent_service.proofs.kept.keep_heard.Goals as goal

pub keep_settled-requires-clause-places : goal.keep_settled-requires-clause-places
keep_settled-requires-clause-places g c =
    let seats = c.requires.seats in
    let guests = length_removed c.args.seated.now.items c.args.at c.requires.at in
    let talks = length_removed c.args.talks.now.items c.args.at (omega (arith, c.requires.at, c.requires.even)) in (
      omega (arith, guests, ap length c.remove-guest.ensures.items, c.remove-guest.ensures.capacity, seats.few, seats.guest_room),
      omega (arith, talks, ap length c.remove-talk.ensures.items, c.remove-talk.ensures.capacity, c.requires.even, seats.few, seats.talk_room),
    )

pub keep_settled-requires-clause-guests : goal.keep_settled-requires-clause-guests
keep_settled-requires-clause-guests g c = c.requires.seats.guest_more

pub keep_settled-requires-clause-commands : goal.keep_settled-requires-clause-commands
keep_settled-requires-clause-commands g c =
    let heard = c.in-Ok.ensures.heard in
    let rooms = rooms_removed c.args.talks.now.items c.args.at c.remove-talk.result (omega (arith, c.requires.at, c.requires.even)) c.remove-talk.ensures.value in
    omega (arith, rooms, heard.within, heard.hears.few, c.requires.seats.commands_more)

pub keep_settled-requires-clause-refused : goal.keep_settled-requires-clause-refused
keep_settled-requires-clause-refused g c = c.requires.seats.refused_more

pub keep_settled-requires-clause-visiting : goal.keep_settled-requires-clause-visiting
keep_settled-requires-clause-visiting g c = omega (arith, c.requires.at, c.requires.seats.known)

-- the guest was read
pub returns-in-Ok-clause-turn : goal.returns-in-Ok-clause-turn
returns-in-Ok-clause-turn g c =
    let heard = c.in-Ok.read.1 in
    let before = table_of c.args.agent.now c.args.seated.now.items c.args.talks.now.items (guests_of (g.F.Fleet.told c.args.fleet.now)) c.args.service in
    let now = table_of c.serve_kept.new.agent c.keep_settled.new.seated.items c.keep_settled.new.talks.items (guests_of (g.F.Fleet.told c.keep_settled.new.fleet)) c.args.service in
    let hears_one : HearsOne (record { source = g.F.Guest.Source.told; sink = g.F.Guest.Sink.told }) before heard (table_of c.serve_kept.new.agent c.keep_settled.new.seated.items c.keep_settled.new.talks.items (guests_of (g.F.Fleet.told c.keep_settled.new.fleet)) (count_behind c.args.service heard.served heard.talk)) = record {
      place = c.args.at;
      guest = c.remove-guest.result;
      talk = c.remove-talk.result;
      sits = (c.requires.at, c.remove-guest.ensures.value);
      kept = (omega (arith, c.requires.at, c.requires.even), c.remove-talk.ensures.value);
      some = c.serve_kept.ensures.some;
      guest_now = c.serve_kept.new.guest;
      items = c.serve_kept.new.agent;
      hears = c.in-Ok.ensures.heard;
      read_cause = c.in-Ok.ensures.read_cause;
      write_cause = c.in-Ok.ensures.write_cause;
      few = c.keeps_few_items.ensures.few;
      behind = settled_is before c.args.at c.serve_kept.new.agent c.serve_kept.new.guest heard c.remove-guest.new.self.items c.keep_settled.new.seated.items c.remove-talk.new.self.items c.keep_settled.new.talks.items
          (g.F.Fleet.told c.keep_settled.new.fleet).coming (g.F.Fleet.told c.keep_settled.new.fleet).served (count_behind c.args.service heard.served heard.talk) c.remove-guest.ensures.items c.remove-talk.ensures.items c.keep_settled.ensures.seated c.keep_settled.ensures.talks
          c.keep_settled.ensures.coming c.keep_settled.ensures.back refl;
    } in
    settled_kept c.keep_settled.result c.in-Ok.read.0 (count_behind c.args.service heard.served heard.talk) (heard.served.fault ≢ Some Memory) (λ (found : Option (Place × Service)). KeepsTurn (record { source = g.F.Guest.Source.told; sink = g.F.Guest.Sink.told }) before found now) c.keep_settled.ensures.found
    (λ room. inr (record { heard = heard; found = room; hears = hears_one }))

pub returns-in-Ok-clause-kept : goal.returns-in-Ok-clause-kept
returns-in-Ok-clause-kept g c =
    let heard = c.in-Ok.read.1 in
    settled_kept c.keep_settled.result c.in-Ok.read.0 (count_behind c.args.service heard.served heard.talk) (heard.served.fault ≢ Some Memory) (λ (found : Option (Place × Service)). IsKeptBehind (g.D.Disk.told c.serve_kept.new.disk) c.args.place found (fenced_holding c.serve_kept.new.agent))
    c.keep_settled.ensures.found (λ room. c.in-Ok.ensures.kept)

pub returns-in-Ok-clause-visiting : goal.returns-in-Ok-clause-visiting
returns-in-Ok-clause-visiting g c = omega (arith, c.keep_settled.ensures.visiting, ap length c.remove-guest.ensures.items, length_removed c.args.seated.now.items c.args.at c.requires.at)

pub returns-in-Ok-clause-cause : goal.returns-in-Ok-clause-cause
returns-in-Ok-clause-cause g c =
    no_room_stops c.keep_settled.result (g.F.Fleet.told c.args.fleet.now).faults (g.F.Fleet.told c.keep_settled.new.fleet).faults (g.D.Disk.told c.args.disk.now).faults (g.D.Disk.told c.serve_kept.new.disk).faults c.keep_settled.ensures.stops

-- the file failed: the guest was given back
pub keep_guest-requires : goal.keep_guest-requires
keep_guest-requires g c = omega (arith, c.requires.at, c.requires.seats.known)

pub returns-in-Err-clause-visiting : goal.returns-in-Err-clause-visiting
returns-in-Err-clause-visiting g c = omega (arith, c.keep_guest.ensures.place, ap length c.remove-guest.ensures.items, length_removed c.args.seated.now.items c.args.at c.requires.at)
