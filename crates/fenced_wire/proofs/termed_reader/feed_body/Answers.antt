use Rattle.std.proofs.Common.{◌≡◌, List, ℕ, false, Option, Some, None, Result, Ok, Err, IsErrAnd, refl, sym, subst}
use Rattle.fenced_agent.specs.Frames.{TermedCommand}
use Rattle.wire_frames.specs.declared.fault.FrameFault.{FrameFault}
use Rattle.fenced_wire.specs.Reading.{Ends, IsTermIn, ReadsTermed, Termed, termed}
use Rattle.fenced_wire.proofs.Heads.{body-breaks, body-ends, body-goes-on, body-standing, broken-standing, gives-command, standing_fresh}
use Rattle.fenced_wire.proofs.termed_reader.feed_body.Goals as goal

-- the fault that was given is the answer's
reads-fault : (r : Termed) (piece : List ℕ) (answer : Result (ℕ × Option TermedCommand) FrameFault) (fault : FrameFault) (now : Termed) → IsErrAnd answer (λ e. e ≡ fault) → ReadsTermed r piece (Err fault) now → ReadsTermed r piece answer now
reads-fault r piece (Ok given) fault now is reads = absurd is
reads-fault r piece (Err e) fault now is reads = subst (λ (f : FrameFault). ReadsTermed r piece (Err f) now) (sym is) reads

pub returns-in_err-n-clause-reads : goal.returns-in_err-n-clause-reads
returns-in_err-n-clause-reads c =
    let r = termed c.args.head.now c.args.commands.now c.args.begun.now in
    let standing = c.requires.standing in
    let now = termed c.args.head.now c.feed.new.self c.args.begun.now in
    reads-fault r c.args.piece.now c.from_residual.result c.in_err-n.field-0.0 now c.from_residual.ensures.1
    (body-breaks r c.args.piece.now standing.head (standing.ready c.requires.live) c.requires.live c.requires.some c.requires.body c.in_err-n.field-0.0 c.feed.new.self c.args.begun.now c.in_err-n.ensures.read)

pub returns-in_err-n-clause-standing : goal.returns-in_err-n-clause-standing
returns-in_err-n-clause-standing c =
    let r = termed c.args.head.now c.args.commands.now c.args.begun.now in
    let standing = c.requires.standing in
    broken-standing r c.args.piece.now standing.head (standing.ready c.requires.live) c.requires.live c.requires.some c.requires.body c.feed.new.self c.args.begun.now c.in_err-n.ensures.read.now_dead

pub returns-in-Some-clause-reads : goal.returns-in-Some-clause-reads
returns-in-Some-clause-reads c =
    let r = termed c.args.head.now c.args.commands.now c.args.begun.now in
    let standing = c.requires.standing in
    let ends = gives-command r.kept c.args.piece.now c.in_ok-n.n c.in_ok-n.found (Some c.in-Some.frame) c.feed.new.self c.in-Some.is c.in_ok-n.ensures.read in
    let found = subst (λ (xs : List ℕ). IsTermIn xs c.term_in-term.result) c.bytes.ensures.all c.term_in-term.ensures in
    subst (λ (head : List ℕ). Ends r c.args.piece.now c.in_ok-n.n (record { term = c.term_in-term.result; command = c.in-Some.frame }) (termed head c.feed.new.self false)) (sym c.clear.ensures)
    (body-ends r c.args.piece.now standing.head (standing.ready c.requires.live) c.requires.live c.requires.some c.requires.body c.in_ok-n.n c.in-Some.frame c.term_in-term.result c.feed.new.self ends found)

pub returns-in-Some-clause-standing : goal.returns-in-Some-clause-standing
returns-in-Some-clause-standing c =
    let ends = gives-command c.args.commands.now.kept c.args.piece.now c.in_ok-n.n c.in_ok-n.found (Some c.in-Some.frame) c.feed.new.self c.in-Some.is c.in_ok-n.ensures.read in
    standing_fresh c.clear.new.self c.feed.new.self false c.clear.ensures ends.now_fresh refl

pub returns-in-None-clause-reads : goal.returns-in-None-clause-reads
returns-in-None-clause-reads c =
    let r = termed c.args.head.now c.args.commands.now c.args.begun.now in
    let standing = c.requires.standing in
    let on = gives-command r.kept c.args.piece.now c.in_ok-n.n c.in_ok-n.found None c.feed.new.self c.in-None.is c.in_ok-n.ensures.read in
    body-goes-on r c.args.piece.now standing.head (standing.ready c.requires.live) c.requires.live c.requires.some c.requires.body c.in_ok-n.n c.feed.new.self on

pub returns-in-None-clause-standing : goal.returns-in-None-clause-standing
returns-in-None-clause-standing c =
    let r = termed c.args.head.now c.args.commands.now c.args.begun.now in
    let standing = c.requires.standing in
    let on = gives-command r.kept c.args.piece.now c.in_ok-n.n c.in_ok-n.found None c.feed.new.self c.in-None.is c.in_ok-n.ensures.read in
    body-standing r c.args.piece.now standing.head (standing.ready c.requires.live) c.requires.live c.requires.some c.requires.body c.in_ok-n.n c.feed.new.self on
