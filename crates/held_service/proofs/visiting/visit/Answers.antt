use Rattle.std.proofs.Common.{◌≡◌, List, ℕ, Some, None, refl, ap, subst, ◌∙◌}
use Rattle.std.specs.Prelude.{IfSome}
use Rattle.wan_edge.specs.Fleets.{with_one}
use Rattle.switch_ports.specs.Berths.{ports_of}
use Rattle.held_service.proofs.Visited.{lacks, lent-now, talks-with-port, visits-by}
use Rattle.held_service.proofs.visiting.visit.Goals as goal

pub talk-requires-clause-lent : goal.talk-requires-clause-lent
talk-requires-clause-lent g c = lent-now (g.F.Fleet.told c.args.fleet.now).lent (g.F.Fleet.told c.port.new.self).lent c.args.switch c.in-Ok.ensures.place

pub returns-in-Ok-clause-visits : goal.returns-in-Ok-clause-visits
returns-in-Ok-clause-visits g c =
    let told = c.in-Ok.ensures in
    let before = ports_of (g.F.Fleet.told c.args.fleet.now) in
    let moment = ports_of (g.F.Fleet.told c.port.new.self) in
    let now = ports_of (g.F.Fleet.told c.talk.new.fleet) in
    let named = told.asked ∙ ap (λ (name : List ℕ). with_one (g.F.Fleet.told c.args.fleet.now).named c.args.switch name) c.switch_name.ensures in
    visits-by g.F.Port.Port.told c.args.problem.now c.args.homes.now c.args.switch c.args.items.now c.args.notes.now c.args.migration c.args.rounds before moment c.talk.result c.in-Ok.port now c.talk.new.notes told.given told.taken told.place named c.talk.ensures.keeps

pub returns-in-Ok-clause-guests : goal.returns-in-Ok-clause-guests
returns-in-Ok-clause-guests g c =
    let given = c.in-Ok.ensures.guests in
    let kept = c.talk.ensures.guests in
    (kept.0 ∙ given.0, kept.1 ∙ given.1, kept.2 ∙ given.2)

pub returns-in-Ok-clause-cause : goal.returns-in-Ok-clause-cause
returns-in-Ok-clause-cause g c = λ w is. absurd (
    talks-with-port g.F.Port.Port.told
    c.args.homes.now c.args.switch w c.args.items.now c.args.notes.now c.args.migration c.args.rounds c.talk.result c.in-Ok.port (ports_of (g.F.Fleet.told c.port.new.self))
    (ports_of (g.F.Fleet.told c.talk.new.fleet)) c.talk.new.notes c.talk.ensures.keeps is
    )

pub returns-in-Err-clause-visits : goal.returns-in-Err-clause-visits
returns-in-Err-clause-visits g c =
    let told = c.in-Err.ensures in
    let before = ports_of (g.F.Fleet.told c.args.fleet.now) in
    let moment = ports_of (g.F.Fleet.told c.port.new.self) in
    let none = subst (λ (name : List ℕ). IfSome before.waiting (λ w. before.named c.args.switch ≡ Some name → w c.args.switch ≡ None)) c.switch_name.ensures told.none in
    lacks g.F.Port.Port.told c.args.problem.now c.args.homes.now c.args.switch c.args.items.now c.args.notes.now c.args.migration c.args.rounds before moment _ refl told.still_waiting told.left told.no_place told.unasked none

pub returns-in-Err-clause-cause : goal.returns-in-Err-clause-cause
returns-in-Err-clause-cause g c = λ w is. c.in-Err.ensures.cause
