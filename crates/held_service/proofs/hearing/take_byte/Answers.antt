use Rattle.std.proofs.Common.{◌++◌, Some, None, refl, sym, subst, arith}
use Rattle.port_session.specs.Bytes.{byte_of}
use Rattle.port_session.proofs.Chaining.{gives, if_err}
use Rattle.held_service.specs.Hearing.{IsAlien}
use Rattle.held_service.specs.declared.alien.Alien.{Alien}
use Rattle.held_service.specs.declared.alien.Alien.TheVariants as alien
use Rattle.held_service.proofs.Bytes.{alien-byte, ends-whole}
use Rattle.held_service.proofs.Heard.{takes-answer, takes-part}
use Rattle.held_service.proofs.hearing.take_byte.Goals as goal

pub returns-in_err-n-clause-err : goal.returns-in_err-n-clause-err
returns-in_err-n-clause-err c =
    let frame = c.in_err-n.field-0.0 in
    let bytes = c.args.reader.now.kept ++ c.args.piece.now in
    if_err c.from_residual.result (alien.Byte (byte_of frame)) (λ (what : Alien). IsAlien c.args.homes.now c.args.switch what bytes) c.from_residual.ensures.1 (alien-byte bytes frame c.in_err-n.ensures.read.at_byte)

pub returns-in_err-note_own-clause-err : goal.returns-in_err-note_own-clause-err
returns-in_err-note_own-clause-err c =
    let kept = c.args.reader.now.kept in
    let piece = c.args.piece.now in
    let frame = c.in-Some.frame in
    let what = c.in_err-note_own.field-0.0 in
    let ends = gives kept piece c.in_ok-n.n c.in_ok-n.found (Some frame) c.feed.new.self c.in-Some.is c.in_ok-n.ensures.read in
    let told : IsAlien c.args.homes.now c.args.switch (alien.Item frame.1.item) (kept ++ piece) =
    record { answer = frame; whole = ends-whole kept piece c.requires.one c.in_ok-n.n frame c.feed.new.self ends; item_is = refl; other = c.in_err-note_own.ensures.other } in
    if_err c.from_residual-in_err-note_own.result what (λ (a : Alien). IsAlien c.args.homes.now c.args.switch a (kept ++ piece)) c.from_residual-in_err-note_own.ensures.1
    (subst (λ (a : Alien). IsAlien c.args.homes.now c.args.switch a (kept ++ piece)) (sym c.in_err-note_own.ensures.why) told)

pub returns-in_ok-note_own-clause-ok : goal.returns-in_ok-note_own-clause-ok
returns-in_ok-note_own-clause-ok c =
    let kept = c.args.reader.now.kept in
    let piece = c.args.piece.now in
    let ends = gives kept piece c.in_ok-n.n c.in_ok-n.found (Some c.in-Some.frame) c.feed.new.self c.in-Some.is c.in_ok-n.ensures.read in
    takes-answer c.args.homes.now c.args.switch kept piece c.requires.one c.in_ok-n.n c.args.left.now _ c.args.notes.now c.note_own.new.notes c.in-Some.frame c.feed.new.self ends
    (omega (arith, c.requires.some)) c.in_ok-note_own.ensures.noted c.in_ok-note_own.ensures.own

pub returns-in_default-clause-ok : goal.returns-in_default-clause-ok
returns-in_default-clause-ok c =
    let kept = c.args.reader.now.kept in
    let piece = c.args.piece.now in
    takes-part c.args.homes.now c.args.switch kept piece c.requires.one c.in_ok-n.n c.args.left.now c.args.left.now c.args.notes.now c.args.notes.now c.feed.new.self
    (gives kept piece c.in_ok-n.n c.in_ok-n.found None c.feed.new.self c.in_default.is c.in_ok-n.ensures.read) refl refl
