use Rattle.std.proofs.Common.{◌∙◌, ap, subst}
use Rattle.fenced_wire.specs.Reading.{ReadsTermed, Termed, termed}
use Rattle.fenced_wire.proofs.termed_reader.TermedReader.feed.Goals as goal

pub feed_parts-requires-clause-standing : goal.feed_parts-requires-clause-standing
feed_parts-requires-clause-standing c = c.self.invariant

pub feed_parts-requires-clause-live : goal.feed_parts-requires-clause-live
feed_parts-requires-clause-live c = ap (λ (r : Termed). r.live) c.self.view_is ∙ c.requires.live

pub returns : goal.returns
returns c =
    subst (λ (r : Termed). ReadsTermed r c.args.piece.now c.feed_parts.result (termed c.feed_parts.new.head c.feed_parts.new.commands c.feed_parts.new.begun)) c.self.view_is c.feed_parts.ensures.reads
