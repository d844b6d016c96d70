use Rattle.std.proofs.Common.{sym}
use Rattle.text_commands.proofs.Documents.{verdict-refused}
use Rattle.text_commands.proofs.texts.checking.check_document.Goals as goal

pub returns-in-Err-Broken-clause-gives : goal.returns-in-Err-Broken-clause-gives
returns-in-Err-Broken-clause-gives c = verdict-refused _ _ _ _ _ (sym c.document.view_is) c.in-Err-Broken.field-0-is c.in-Err-Broken.ensures.verdict
