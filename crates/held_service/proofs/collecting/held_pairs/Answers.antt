use Rattle.std.proofs.Common.{refl, ◌∙◌, inl}
use Rattle.port_session.proofs.Chaining.{if_err}
use Rattle.switch_ports.specs.Berths.{ports_of}
use Rattle.held_service.specs.Visits.{Fails}
use Rattle.held_service.specs.declared.not_told.NotTold.{NotTold}
use Rattle.held_service.specs.declared.not_told.NotTold.TheVariants as cause
use Rattle.held_service.proofs.Visited.{wants-with-port}
use Rattle.held_service.proofs.collecting.held_pairs.Goals as goal

pub returns-in_err-index-clause-err : goal.returns-in_err-index-clause-err
returns-in_err-index-clause-err g c =
    let ports = ports_of (g.F.Fleet.told c.args.fleet.now) in
    if_err c.from_residual.result cause.Memory (λ (why : NotTold). Fails g.F.Port.Port.told c.args.plan.now.problem c.args.plan.now.plan c.args.migration c.args.rounds why ports ports) c.from_residual.ensures.1
    (inl (record { why_is = refl; now_is = refl }))

pub returns-in_err-index-clause-cause : goal.returns-in_err-index-clause-cause
returns-in_err-index-clause-cause g c = λ w is. absurd (wants-with-port w c.from_residual.result c.from_residual.ensures.1 is)

pub returns-in_err-homes-clause-err : goal.returns-in_err-homes-clause-err
returns-in_err-homes-clause-err g c =
    let ports = ports_of (g.F.Fleet.told c.args.fleet.now) in
    if_err c.from_residual-in_err-homes.result cause.Memory (λ (why : NotTold). Fails g.F.Port.Port.told c.args.plan.now.problem c.args.plan.now.plan c.args.migration c.args.rounds why ports ports) c.from_residual-in_err-homes.ensures.1
    (inl (record { why_is = refl; now_is = refl }))

pub returns-in_err-homes-clause-cause : goal.returns-in_err-homes-clause-cause
returns-in_err-homes-clause-cause g c = λ w is. absurd (wants-with-port w c.from_residual-in_err-homes.result c.from_residual-in_err-homes.ensures.1 is)

pub asked_homes-requires : goal.asked_homes-requires
asked_homes-requires g c = c.in_ok-index.ensures.rollout

pub collect-requires-clause-index : goal.collect-requires-clause-index
collect-requires-clause-index g c = c.in_ok-index.ensures.rollout

pub collect-requires-clause-homes : goal.collect-requires-clause-homes
collect-requires-clause-homes g c = c.as_slice.ensures ∙ c.in_ok-homes.ensures
