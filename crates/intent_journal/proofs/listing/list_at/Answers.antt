use Rattle.std.proofs.Common.{ap, ◌∙◌}
use Rattle.intent_journal.specs.Parts.{is_whole}
use Rattle.intent_journal.proofs.Blanks.{side_whole}
use Rattle.intent_journal.proofs.Listings.{side_listed}
use Rattle.intent_journal.proofs.listing.list_at.Goals as goal

pub read_list-requires : goal.read_list-requires
read_list-requires c =
    ap (is_whole c.at-slot.result) c.part_of.ensures ∙ side_whole c.args.image.now c.args.side c.at-slot.result c.requires.side c.at-slot.ensures

pub returns : goal.returns
returns c =
    side_listed c.args.image.now c.part_of.result.now c.args.side c.at-slot.result c.in_ok-listed.listed c.whole_of.result c.requires.journal c.requires.side c.at-slot.ensures c.part_of.ensures c.in_ok-listed.ensures.all c.whole_of.ensures
