use Rattle.std.proofs.Common.{Err, Ok, refl}
use Rattle.retarget_top.proofs.retargeting.retarget_ending.Goals as goal

pub returns-in-Ok : goal.returns-in-Ok
returns-in-Ok g c = record { input = Ok c.in-Ok.input; reads = c.in-Ok.ensures.read; cause = c.in-Ok.ensures.cause; ends = c.retarget_input.ensures }

pub returns-in-Err : goal.returns-in-Err
returns-in-Err g c = record { input = Err c.in-Err.ending; reads = c.in-Err.ensures.read; cause = c.in-Err.ensures.cause; ends = (refl, record { disk_is = refl; sink_is = refl }) }
