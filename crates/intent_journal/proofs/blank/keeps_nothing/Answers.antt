use Rattle.std.proofs.Common.{◌≡◌, IfOk, Option, Some, ap, ◌∙◌, sym, subst}
use Rattle.intent_journal.specs.Images.{keeps_nothing, kept_at}
use Rattle.intent_journal.specs.Parts.{Kept, Slot}
use Rattle.intent_journal.proofs.Blanks.{opened_none, opened_part, side_small, side_whole}
use Rattle.intent_journal.proofs.blank.keeps_nothing.Goals as goal

pub at-requires : goal.at-requires
at-requires c = side_small c.args.image.now _ (sym c.in-Some.ensures)

pub list_is_empty-requires : goal.list_is_empty-requires
list_is_empty-requires c = side_whole c.args.image.now _ _ (sym c.in-Some.ensures) c.at.ensures

pub returns-in-Some : goal.returns-in-Some
returns-in-Some c =
    let is = ap (λ (s : Slot). Some (kept_at s c.args.image.now)) c.at.ensures ∙ sym (opened_part c.args.image.now _ c.requires (sym c.in-Some.ensures)) in
    subst (λ (k : Option Kept). IfOk c.list_is_empty.result (λ empty. empty ≡ keeps_nothing k)) is c.list_is_empty.ensures

pub returns-in-None : goal.returns-in-None
returns-in-None c = sym (ap keeps_nothing (opened_none c.args.image.now c.requires (sym c.in-None.ensures)))
