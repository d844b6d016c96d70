use Rattle.std.proofs.Common.{Err, Ok, refl}
use Rattle.retarget_top.proofs.retargeting.retarget_input.Goals as goal

pub retarget_wanted-requires-clause-aim : goal.retarget_wanted-requires-clause-aim
retarget_wanted-requires-clause-aim g c = c.in-Ok.ensures.may

pub returns-in-Ok : goal.returns-in-Ok
returns-in-Ok g c = record { wanted = Ok c.in-Ok.wanted; wants = c.in-Ok.ensures; ends = c.retarget_wanted.ensures }

pub returns-in-Err : goal.returns-in-Err
returns-in-Err g c = record { wanted = Err c.in-Err.ending; wants = c.in-Err.ensures; ends = (refl, record { disk_is = refl; sink_is = refl }) }
