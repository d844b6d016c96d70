use Rattle.std.proofs.Common.{sym}
use Rattle.swanroll_top.specs.Words.{asked}
use Rattle.swanroll_top.proofs.Promises.{promised, usage-promised}
use Rattle.swanroll_top.proofs.top.swanroll.Goals as goal

pub returns-in-Some : goal.returns-in-Some
returns-in-Some g c = promised _ _ (asked c.in-Some.command) _ _ c.run-ending.result.ending _ (sym c.in-Some.ensures.asked) c.run-ending.ensures c.note-status.ensures.told c.note-status.ensures.quiet

pub returns-in-None : goal.returns-in-None
returns-in-None g c = usage-promised _ _ _ _ _ _ _ _ _ (sym c.in-None.ensures.asked) c.note.ensures.told c.note.ensures.quiet
