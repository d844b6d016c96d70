use Rattle.std.proofs.Common.{sym}
use Rattle.text_commands.proofs.KeptTexts.{promised-as, usage-text}
use Rattle.text_commands.proofs.making.make_text.Goals as goal

pub returns-in-Some : goal.returns-in-Some
returns-in-Some g c = promised-as _ _ _ _ _ _ _ c.in-Some.ensures c.make_asked.ensures

pub returns-in-None : goal.returns-in-None
returns-in-None g c = usage-text _ _ _ _ _ _ _ _ (sym c.in-None.ensures) c.note.ensures.told c.note.ensures.quiet
