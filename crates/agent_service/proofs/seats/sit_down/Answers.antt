use Rattle.std.proofs.Common.{◌≡◌, ◌+◌, List, None, Ok, refl, rules, subst, arith}
use Rattle.lists.proofs.Options.{of_some}
use Rattle.wan_edge.specs.Fleets.{GivesGuest}
use Rattle.agent_service.specs.Services.{SitsFrom, guests_of, table_of}
use Rattle.agent_service.proofs.Rows.{none_of, same_table}
use Rattle.agent_service.proofs.seats.sit_down.Goals as goal

-- the fleet knows of one guest more than sit
pub seat-now-requires-clause-visiting : goal.seat-now-requires-clause-visiting
seat-now-requires-clause-visiting g c =
    let place = of_some (λ guest. (g.F.Fleet.told c.guest.new.self).visiting ≡ (g.F.Fleet.told c.args.fleet.now).visiting + 1) c.in_ok-found.found c.in-Some.guest c.in-Some.is c.in_ok-found.ensures.place in
    omega (arith, c.requires.visiting, place)

pub returns-in_err-found-clause-visiting : goal.returns-in_err-found-clause-visiting
returns-in_err-found-clause-visiting g c = omega (arith, c.in_err-found.ensures.no_visit)

-- no more come
pub returns-in_default-clause-sits : goal.returns-in_default-clause-sits
returns-in_default-clause-sits g c = λ items.
    let none : c.guest.result ≡ Ok None = search rules in (
      same_table items c.args.seated.now.items c.args.seated.now.items c.args.talks.now.items c.args.talks.now.items (g.F.Fleet.told c.args.fleet.now).coming (g.F.Fleet.told c.guest.new.self).coming (g.F.Fleet.told c.args.fleet.now).served (g.F.Fleet.told c.guest.new.self).served c.args.service
          refl refl (c.guest.ensures.still_none none) c.guest.ensures.others,
      none_of (g.F.Fleet.told c.args.fleet.now).coming (c.guest.ensures.no_more none),
    )

pub returns-in_default-clause-visiting : goal.returns-in_default-clause-visiting
returns-in_default-clause-visiting g c =
    let none : c.guest.result ≡ Ok None = search rules in
    omega (arith, c.guest.ensures.no_place none)

-- a guest came
pub returns-clause-sits : goal.returns-clause-sits
returns-clause-sits g c = λ items. record {
  guest = c.in-Some.guest;
  coming = (g.F.Fleet.told c.guest.new.self).coming;
  given = of_some (λ guest. GivesGuest g.F.Guest.Source.told g.F.Guest.Sink.told (g.F.Fleet.told c.args.fleet.now).coming guest (g.F.Fleet.told c.guest.new.self).coming) c.in_ok-found.found c.in-Some.guest c.in-Some.is c.in_ok-found.ensures.given;
  sits = subst
      (λ (back : List _).
      SitsFrom (table_of items c.args.seated.now.items c.args.talks.now.items (record { coming = (g.F.Fleet.told c.guest.new.self).coming; served = back }) c.args.service) c.in-Some.guest
      (table_of items c.seat-now.new.seated.items c.seat-now.new.talks.items (guests_of (g.F.Fleet.told c.seat-now.new.fleet)) c.seat-now.result)) c.guest.ensures.others (c.seat-now.ensures.sits items);
}

pub returns-clause-visiting : goal.returns-clause-visiting
returns-clause-visiting g c =
    let place = of_some (λ guest. (g.F.Fleet.told c.guest.new.self).visiting ≡ (g.F.Fleet.told c.args.fleet.now).visiting + 1) c.in_ok-found.found c.in-Some.guest c.in-Some.is c.in_ok-found.ensures.place in
    omega (arith, c.seat-now.ensures.visiting, place)
