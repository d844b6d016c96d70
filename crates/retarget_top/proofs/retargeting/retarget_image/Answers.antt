use Rattle.std.proofs.Common.{Err, Ok, refl}
use Rattle.retarget_top.proofs.retargeting.retarget_image.Goals as goal

pub returns-in-Ok : goal.returns-in-Ok
returns-in-Ok g c = record { made = Ok c.in-Ok.problem; makes = c.in-Ok.ensures; ends = c.retarget_problem.ensures }

pub returns-in-Err : goal.returns-in-Err
returns-in-Err g c = record { made = Err c.in-Err.why; makes = c.in-Err.ensures; ends = (c.from.ensures, record { disk_is = refl; sink_is = refl }) }
