use Rattle.std.proofs.Common.{refl, ◌∙◌, inl, arith}
use Rattle.switch_ports.specs.Berths.{ports_of}
use Rattle.held_service.proofs.Asked.{none-asked, some-asked}
use Rattle.held_service.proofs.Visited.{one-visited, wants-one, wants-with-port}
use Rattle.held_service.proofs.visiting.ask_one.Goals as goal

pub returns-in_err-items-clause-asks : goal.returns-in_err-items-clause-asks
returns-in_err-items-clause-asks g c =
    wants-one g.F.Port.Port.told
    c.args.problem.now c.args.homes.now c.args.switch c.args.notes.now c.args.migration c.args.rounds (ports_of (g.F.Fleet.told c.args.fleet.now)) c.args.notes.now c.from_residual.result c.from_residual.ensures.1

pub returns-in_err-items-clause-cause : goal.returns-in_err-items-clause-cause
returns-in_err-items-clause-cause g c = λ w is. absurd (wants-with-port w c.from_residual.result c.from_residual.ensures.1 is)

pub returns-then-some-eq0-clause-asks : goal.returns-then-some-eq0-clause-asks
returns-then-some-eq0-clause-asks g c =
    let none = none-asked c.args.homes.now c.args.switch c.as_slice-some.result.now (c.as_slice-some.ensures ∙ c.in_ok-items.ensures) c.if-some-eq0.true in
    inl (record { none = none; notes_are = refl; now_is = refl })

pub returns-clause-asks : goal.returns-clause-asks
returns-clause-asks g c =
    let before = ports_of (g.F.Fleet.told c.args.fleet.now) in
    let now = ports_of (g.F.Fleet.told c.visit.new.fleet) in
    let some = some-asked c.args.homes.now c.args.switch c.as_slice-some.result.now (c.as_slice-some.ensures ∙ c.in_ok-items.ensures) (omega (arith, c.if-some-eq0.false)) in
    one-visited g.F.Port.Port.told c.args.problem.now c.args.homes.now c.args.switch c.args.notes.now c.args.migration c.args.rounds before now c.visit.new.notes c.visit.result c.as_slice-items.result.now (c.as_slice-items.ensures ∙ c.in_ok-items.ensures) some c.visit.ensures.visits
