use Rattle.std.proofs.Common.{Err, Ok, refl}
use Rattle.takeover_top.proofs.taking.take.Goals as goal

pub returns-in-Ok-clause-takes : goal.returns-in-Ok-clause-takes
returns-in-Ok-clause-takes g c = record { input = Ok c.in-Ok.input; reads = c.in-Ok.ensures.read; cause = c.in-Ok.ensures.cause; ends = c.take_input.ensures.takes }

pub returns-in-Err-clause-takes : goal.returns-in-Err-clause-takes
returns-in-Err-clause-takes g c = record { input = Err c.in-Err.ending; reads = c.in-Err.ensures.read; cause = c.in-Err.ensures.cause; ends = (refl, refl, refl, refl) }
