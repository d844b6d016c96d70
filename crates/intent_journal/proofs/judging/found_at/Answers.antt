use Rattle.std.proofs.Common.{refl, ap, ◌∙◌, ◌+◌, nat_eq}
use Rattle.disk_model.specs.Numbers.{byte_at}
use Rattle.intent_journal.specs.Parts.{Slot}
use Rattle.intent_journal.proofs.Readings.{found_is, sides_of}
use Rattle.intent_journal.proofs.judging.found_at.Goals as goal

pub returns : goal.returns
returns c =
    found_is c.args.image.now c.args.side c.args.slot.now c.args.gate _ c.requires.journal c.requires.side c.requires.slot (record {
      this = refl;
      sides = sides_of c.args.image.now c.args.side c.other_side-other.result c.requires.side c.other_side-other.ensures;
      start = ap (λ (s : Slot). s.start) c.slot.view_is;
      field = ap (λ (s : Slot). s.field) c.slot.view_is;
      behind = ap (λ (s : Slot). s.start + c.args.gate) c.slot.view_is;
      long = refl;
      also = ap (λ b. nat_eq b 83) c.byte_in.ensures;
      cut = ap (λ b. nat_eq b 71) (c.byte_in-2.ensures ∙ ap (byte_at c.args.gate) c.part_of.ensures);
    })
