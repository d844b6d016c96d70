use Rattle.std.proofs.Common.{List, ℕ, length, refl, ap, ◌∙◌}
use Rattle.port_session.proofs.Chaining.{if_err}
use Rattle.held_service.specs.Questions.{question_bytes}
use Rattle.held_service.specs.Talks.{StopsRound}
use Rattle.held_service.specs.declared.not_told.NotTold.{NotTold}
use Rattle.held_service.specs.declared.not_told.NotTold.TheVariants as cause
use Rattle.held_service.proofs.Rounded.{round-cut, round-made, round-unsent, round-wants}
use Rattle.held_service.proofs.asking.ask_round.Goals as goal

pub returns-in_err-left-clause-err : goal.returns-in_err-left-clause-err
returns-in_err-left-clause-err g c =
    let homes = c.args.homes.now in
    let port = g.T.Port.told c.args.port.now in
    if_err c.from_residual.result cause.Memory (λ (w : NotTold). StopsRound c.args.migration homes c.args.switch c.args.items.now c.args.notes.now w c.args.reader.now.kept port port) c.from_residual.ensures.1
    (round-wants c.args.migration homes c.args.switch c.args.items.now c.args.notes.now c.args.reader.now.kept cause.Memory port refl)

pub returns-in_err-bytes-clause-err : goal.returns-in_err-bytes-clause-err
returns-in_err-bytes-clause-err g c =
    let homes = c.args.homes.now in
    let port = g.T.Port.told c.args.port.now in
    if_err c.from_residual-in_err-bytes.result cause.Memory (λ (w : NotTold). StopsRound c.args.migration homes c.args.switch c.args.items.now c.args.notes.now w c.args.reader.now.kept port port) c.from_residual-in_err-bytes.ensures.1
    (round-wants c.args.migration homes c.args.switch c.args.items.now c.args.notes.now c.args.reader.now.kept cause.Memory port refl)

pub returns-in_err-offer-clause-err : goal.returns-in_err-offer-clause-err
returns-in_err-offer-clause-err g c =
    let tell = g.T.Port.told in
    let homes = c.args.homes.now in
    let items = c.args.items.now in
    let notes = c.args.notes.now in
    let kept = c.args.reader.now.kept in
    let before = tell c.args.port.now in
    let now = tell c.offer.new.port in
    let why = c.in_err-offer.field-0.0 in
    if_err c.from_residual-in_err-offer.result why (λ (w : NotTold). StopsRound c.args.migration homes c.args.switch items notes w kept before now) c.from_residual-in_err-offer.ensures.1
    (round-unsent c.args.migration homes c.args.switch items notes kept before now c.in_ok-left.left c.as_slice-2.result.now c.in_ok-left.ensures
    (c.as_slice-2.ensures ∙ c.in_ok-bytes.ensures ∙ ap (question_bytes c.args.migration) c.as_slice.ensures) why c.in_err-offer.ensures.why c.in_err-offer.ensures.part c.offer.ensures.step)

pub returns-in_err-hear_out-clause-err : goal.returns-in_err-hear_out-clause-err
returns-in_err-hear_out-clause-err g c =
    let tell = g.T.Port.told in
    let homes = c.args.homes.now in
    let items = c.args.items.now in
    let notes = c.args.notes.now in
    let kept = c.args.reader.now.kept in
    let before = tell c.args.port.now in
    let now = tell c.hear_out.new.port in
    let why = c.in_err-hear_out.field-0.0 in
    if_err c.from_residual-in_err-hear_out.result why (λ (w : NotTold). StopsRound c.args.migration homes c.args.switch items notes w kept before now) c.from_residual-in_err-hear_out.ensures.1
    (round-cut c.args.migration homes c.args.switch items notes kept before (tell c.offer.new.port) c.in_ok-left.left c.as_slice-2.result.now c.in_ok-left.ensures
    (c.as_slice-2.ensures ∙ c.in_ok-bytes.ensures ∙ ap (question_bytes c.args.migration) c.as_slice.ensures) now c.in_ok-offer.ensures.all c.offer.ensures.step why c.in_err-hear_out.ensures.err)

pub returns-clause-ok : goal.returns-clause-ok
returns-clause-ok g c =
    let tell = g.T.Port.told in
    round-made c.args.migration c.args.homes.now c.args.switch c.args.items.now c.args.notes.now c.args.reader.now.kept (tell c.args.port.now) (tell c.offer.new.port) c.in_ok-left.left c.as_slice-2.result.now c.in_ok-left.ensures
    (c.as_slice-2.ensures ∙ c.in_ok-bytes.ensures ∙ ap (question_bytes c.args.migration) c.as_slice.ensures) (tell c.hear_out.new.port) c.in_ok-offer.ensures.all c.offer.ensures.step
    (length c.as_slice-3.result.now) c.hear_out.new.reader.kept c.hear_out.new.notes (ap (λ (xs : List ℕ). length xs) c.as_slice-3.ensures) c.in_ok-hear_out.ensures.cut c.in_ok-hear_out.ensures.ok
