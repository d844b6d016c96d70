use Rattle.std.proofs.Common.{refl, sym, subst, arith}
use Rattle.std.proofs.lemmas.List.{length-take-le}
use Rattle.port_session.proofs.Chaining.{if_err}
use Rattle.held_service.specs.Hearing.{StopsHearing}
use Rattle.held_service.specs.declared.not_told.NotTold.{NotTold}
use Rattle.held_service.proofs.Heard.{alien-stops, hears-byte, hears-none, port-stops}
use Rattle.held_service.proofs.hearing.hear_next.Goals as goal

pub returns-in_err-n-clause-err : goal.returns-in_err-n-clause-err
returns-in_err-n-clause-err g c =
    let tell = g.T.Port.told in
    let why = c.in_err-n.field-0.0 in
    let kept = c.args.reader.now.kept in
    let before = tell c.args.port.now in
    let now = tell c.hear_some.new.port in
    if_err c.from_residual.result why (λ (w : NotTold). StopsHearing c.args.homes.now c.args.switch w kept before now) c.from_residual.ensures.1
    (port-stops c.args.homes.now c.args.switch kept before now why c.in_err-n.ensures.why c.in_err-n.ensures.nothing c.hear_some.ensures.step)

pub returns-then-n-eq0-clause-ok : goal.returns-then-n-eq0-clause-ok
returns-then-n-eq0-clause-ok g c =
    let tell = g.T.Port.told in
    record {
      nothing = hears-none c.args.homes.now c.args.switch c.args.reader.now.kept (tell c.args.port.now) (tell c.hear_some.new.port) c.in_ok-n.n c.hear_some.new.byte c.in_ok-n.ensures.given c.hear_some.ensures.step c.if-n-eq0.true;
      awaited_is = refl;
      kept_is = refl;
      notes_are = refl;
    }

pub take_byte-requires-clause-one : goal.take_byte-requires-clause-one
take_byte-requires-clause-one g c =
    let n = c.in_ok-n.n in
    let into = c.hear_some.new.byte in
    let long = length-take-le n into (omega (arith, c.in_ok-n.ensures.within, c.hear_some.auto.byte)) in
    omega (arith, long, c.if-n-eq0.false, c.in_ok-n.ensures.within)

pub returns-in-Ok-clause-ok : goal.returns-in-Ok-clause-ok
returns-in-Ok-clause-ok g c =
    let tell = g.T.Port.told in
    hears-byte c.args.homes.now c.args.switch c.args.reader.now.kept (tell c.args.port.now) (tell c.hear_some.new.port) c.in_ok-n.n c.hear_some.new.byte c.in_ok-n.ensures.given c.hear_some.ensures.step
    c.args.left.now c.take_byte.new.left c.args.notes.now c.take_byte.new.notes c.take_byte.new.reader.kept (omega (arith, c.if-n-eq0.false)) c.in-Ok.ensures.ok

pub returns-in-Err-clause-err : goal.returns-in-Err-clause-err
returns-in-Err-clause-err g c =
    let tell = g.T.Port.told in
    let kept = c.args.reader.now.kept in
    let before = tell c.args.port.now in
    let now = tell c.hear_some.new.port in
    subst (λ (w : NotTold). StopsHearing c.args.homes.now c.args.switch w kept before now) (sym c.named_at.ensures)
    (alien-stops c.args.homes.now c.args.switch kept before now c.in_ok-n.n c.hear_some.new.byte c.in_ok-n.ensures.given c.hear_some.ensures.step c.in-Err.alien c.in-Err.ensures.err)
