use Rattle.std.proofs.Common.{Some, None, refl}
use Rattle.port_session.specs.Bytes.{byte_of}
use Rattle.port_session.specs.declared.fault.SessionFault.TheVariants as fault
use Rattle.port_session.proofs.Chaining.{gives, if_err, reads_fault, reads_none, reads_unread}
use Rattle.port_session.proofs.stream.read_next.Goals as goal

pub returns-in_err-n-clause-err : goal.returns-in_err-n-clause-err
returns-in_err-n-clause-err c =
    let frame = c.in_err-n.field-0.0 in
    if_err c.from_residual.result (fault.NoAnswer (byte_of frame)) _ c.from_residual.ensures.1
    (reads_fault c.args.migration c.args.reader.now.kept c.args.piece.now c.args.awaited.now c.args.answers.now frame (fault.NoAnswer (byte_of frame)) c.feed.new.self.kept c.in_err-n.ensures.read.at_byte refl)

pub returns-in_err-tell-clause-err : goal.returns-in_err-tell-clause-err
returns-in_err-tell-clause-err c =
    let ends = gives c.args.reader.now.kept c.args.piece.now c.in_ok-n.n c.in_ok-n.found (Some c.in-Some.frame) c.feed.new.self c.in-Some.is c.in_ok-n.ensures.read in
    if_err c.from_residual-in_err-tell.result fault.Memory _ c.from_residual-in_err-tell.ensures.1
    (reads_unread c.args.migration c.args.reader.now.kept c.args.piece.now c.args.awaited.now c.args.answers.now c.in_ok-n.n c.in-Some.frame c.feed.new.self _ _ ends c.in_err-tell.ensures.err.1 refl c.in_err-tell.ensures.err.0)

pub returns-in_default-clause-ok : goal.returns-in_default-clause-ok
returns-in_default-clause-ok c =
    reads_none c.args.migration c.args.reader.now.kept c.args.piece.now c.args.awaited.now c.args.answers.now c.in_ok-n.n c.feed.new.self
    (gives c.args.reader.now.kept c.args.piece.now c.in_ok-n.n c.in_ok-n.found None c.feed.new.self c.in_default.is c.in_ok-n.ensures.read)
