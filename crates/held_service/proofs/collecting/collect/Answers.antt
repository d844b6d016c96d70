use Rattle.std.proofs.Common.{refl, ap, ◌∙◌, inl}
use Rattle.port_session.proofs.Chaining.{if_err}
use Rattle.rollout_rules.specs.Items.{item_count}
use Rattle.rollout_rules.specs.Wan.{Rollout}
use Rattle.switch_ports.specs.Berths.{ports_of}
use Rattle.held_service.specs.Noting.{no_notes}
use Rattle.held_service.specs.Visits.{Fails}
use Rattle.held_service.specs.declared.not_told.NotTold.{NotTold}
use Rattle.held_service.specs.declared.not_told.NotTold.TheVariants as cause
use Rattle.held_service.proofs.Visited.{fails-also, fails-for, wants-with-port}
use Rattle.held_service.proofs.collecting.collect.Goals as goal

pub returns-in_err-row-clause-err : goal.returns-in_err-row-clause-err
returns-in_err-row-clause-err g c =
    let ports = ports_of (g.F.Fleet.told c.args.fleet.now) in
    if_err c.from_residual.result cause.Memory (λ (why : NotTold). Fails g.F.Port.Port.told c.args.plan.now.problem c.args.plan.now.plan c.args.migration c.args.rounds why ports ports) c.from_residual.ensures.1
    (inl (record { why_is = refl; now_is = refl }))

pub returns-in_err-row-clause-cause : goal.returns-in_err-row-clause-cause
returns-in_err-row-clause-cause g c = λ w is. absurd (wants-with-port w c.from_residual.result c.from_residual.ensures.1 is)

pub note_all-requires-clause-none : goal.note_all-requires-clause-none
note_all-requires-clause-none g c =
    c.deref_mut.ensures.value ∙ c.in_ok-row.ensures ∙ ap no_notes (c.item_count.ensures ∙ ap (λ (r : Rollout). item_count r.problem) c.requires.index)

pub returns-in_err-note_all-clause-err : goal.returns-in_err-note_all-clause-err
returns-in_err-note_all-clause-err g c =
    let before = ports_of (g.F.Fleet.told c.args.fleet.now) in
    let now = ports_of (g.F.Fleet.told c.note_all.new.fleet) in
    let why = c.in_err-note_all.field-0.0 in
    if_err c.from_residual-in_err-note_all.result why (λ (w : NotTold). Fails g.F.Port.Port.told c.args.plan.now.problem c.args.plan.now.plan c.args.migration c.args.rounds w before now) c.from_residual-in_err-note_all.ensures.1
    c.in_err-note_all.ensures.err

pub returns-in_err-note_all-clause-cause : goal.returns-in_err-note_all-clause-cause
returns-in_err-note_all-clause-cause g c = λ w is.
    c.in_err-note_all.ensures.cause w (fails-also c.in_err-note_all.field-0.0 w (fails-for c.in_err-note_all.field-0.0 w c.from_residual-in_err-note_all.result c.from_residual-in_err-note_all.ensures.1 is))
