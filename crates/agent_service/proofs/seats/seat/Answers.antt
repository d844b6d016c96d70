use Rattle.std.proofs.Common.{◌∙◌, [], ◌∷◌, ◌++◌, length, refl, ap, arith}
use Rattle.std.proofs.lemmas.List.{length_push}
use Rattle.switch_agent.specs.ReadStates.{ReadSoFar}
use Rattle.agent_service.specs.Services.{table_of}
use Rattle.agent_service.proofs.Rows.{seated_is}
use Rattle.agent_service.proofs.seats.seat.Goals as goal

pub returns-clause-sits : goal.returns-clause-sits
returns-clause-sits g c = λ items.
    let room = c.make_room-now in
    let between = table_of items room.new.seated.items room.new.talks.items (record { coming = (g.F.Fleet.told c.args.fleet.now).coming; served = (g.F.Fleet.told room.new.fleet).served }) room.result in
    let talks = c.push_reserved-2.ensures.items ∙ ap (λ (t : ReadSoFar). room.new.talks.items ++ t ∷ []) c.new-talk.ensures in
    record {
      between = between;
      room = room.ensures.room items;
      sits = seated_is between c.args.guest items c.push_reserved.new.self.items c.push_reserved-2.new.self.items (g.F.Fleet.told room.new.fleet).coming (g.F.Fleet.told room.new.fleet).served room.result refl c.push_reserved.ensures.items talks room.ensures.coming refl refl;
    }

pub returns-clause-visiting : goal.returns-clause-visiting
returns-clause-visiting g c = omega (arith, c.make_room-now.ensures.visiting, ap length c.push_reserved.ensures.items, length_push c.make_room-now.new.seated.items c.args.guest)
