use Rattle.std.proofs.Common.{Err, Ok, ap, refl}
use Rattle.retarget_top.specs.declared.ending.RetargetEnding.TheVariants.{Ended}
use Rattle.retarget_top.proofs.retargeting.retarget_problem.Goals as goal

pub returns-in-Ok : goal.returns-in-Ok
returns-in-Ok g c = record { chosen = Ok c.in-Ok.chosen; is = c.in-Ok.ensures; ends = c.replace.ensures }

pub returns-in-Err : goal.returns-in-Err
returns-in-Err g c = record { chosen = Err c.in-Err.missed; is = c.in-Err.ensures; ends = (ap Ended c.from.ensures, record { disk_is = refl; sink_is = refl }) }
