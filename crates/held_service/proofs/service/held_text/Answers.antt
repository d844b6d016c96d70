use Rattle.std.proofs.Common.{refl, ◌∙◌}
use Rattle.switch_ports.specs.Berths.{ports_of}
use Rattle.held_service.proofs.Visited.{wants-all, wants-with-port}
use Rattle.held_service.proofs.service.held_text.Goals as goal

pub returns-in_err-index-clause-asks : goal.returns-in_err-index-clause-asks
returns-in_err-index-clause-asks g c =
    let ports = ports_of (g.F.Fleet.told c.args.fleet.now) in
    wants-all g.F.Port.Port.told c.args.plan.now.problem c.args.plan.now.plan c.args.rounds ports ports c.from_residual.result refl c.from_residual.ensures.1

pub returns-in_err-index-clause-cause : goal.returns-in_err-index-clause-cause
returns-in_err-index-clause-cause g c = λ w is. absurd (wants-with-port w c.from_residual.result c.from_residual.ensures.1 is)

pub returns-in_err-homes-clause-asks : goal.returns-in_err-homes-clause-asks
returns-in_err-homes-clause-asks g c =
    let ports = ports_of (g.F.Fleet.told c.args.fleet.now) in
    wants-all g.F.Port.Port.told c.args.plan.now.problem c.args.plan.now.plan c.args.rounds ports ports c.from_residual-in_err-homes.result refl c.from_residual-in_err-homes.ensures.1

pub returns-in_err-homes-clause-cause : goal.returns-in_err-homes-clause-cause
returns-in_err-homes-clause-cause g c = λ w is. absurd (wants-with-port w c.from_residual-in_err-homes.result c.from_residual-in_err-homes.ensures.1 is)

pub asked_homes-requires : goal.asked_homes-requires
asked_homes-requires g c = c.in_ok-index.ensures.rollout

pub ask_and_tell-requires-clause-index : goal.ask_and_tell-requires-clause-index
ask_and_tell-requires-clause-index g c = c.in_ok-index.ensures.rollout

pub ask_and_tell-requires-clause-homes : goal.ask_and_tell-requires-clause-homes
ask_and_tell-requires-clause-homes g c = c.as_slice.ensures ∙ c.in_ok-homes.ensures
