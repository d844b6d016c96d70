use Rattle.std.proofs.Common.{List, ℕ, subst, arith}
use Rattle.fenced_wire.specs.Reading.{IsInBody, IsInHead, termed}
use Rattle.fenced_wire.proofs.Heads.{head-goes-on, head-standing}
use Rattle.fenced_wire.proofs.termed_reader.feed_parts.Goals as goal

pub returns-then-is_in_head-clause-reads : goal.returns-then-is_in_head-clause-reads
returns-then-is_in_head-clause-reads c =
    let r = termed c.args.head.now c.args.commands.now c.args.begun.now in
    let standing = c.requires.standing in
    let place = subst (λ (xs : List ℕ). IsInHead xs c.args.begun.now c.args.piece.now) c.bytes.ensures.all (c.is_in_head.ensures.yes c.if-is_in_head.true) in
    head-goes-on r c.args.piece.now standing.head (standing.ready c.requires.live) c.requires.live c.requires.some (λ i. omega (arith, c.type_inv.piece i)) place c.fill-n.result c.fill-n.new.self c.fill-n.ensures.count c.fill-n.ensures.filled

pub returns-then-is_in_head-clause-standing : goal.returns-then-is_in_head-clause-standing
returns-then-is_in_head-clause-standing c =
    let r = termed c.args.head.now c.args.commands.now c.args.begun.now in
    let standing = c.requires.standing in
    let place = subst (λ (xs : List ℕ). IsInHead xs c.args.begun.now c.args.piece.now) c.bytes.ensures.all (c.is_in_head.ensures.yes c.if-is_in_head.true) in
    head-standing r c.args.piece.now standing.head (standing.ready c.requires.live) c.requires.live c.requires.some (λ i. omega (arith, c.type_inv.piece i)) place c.fill-n.result c.fill-n.new.self c.fill-n.ensures.count c.fill-n.ensures.filled

pub feed_body-requires-clause-body : goal.feed_body-requires-clause-body
feed_body-requires-clause-body c = subst (λ (xs : List ℕ). IsInBody xs c.args.begun.now c.args.piece.now) c.bytes.ensures.all (c.is_in_head.ensures.no c.if-is_in_head.false)
