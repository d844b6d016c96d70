use Rattle.std.proofs.Common.{Err, Ok, refl}
use Rattle.swanroll_top.proofs.left.left_input.Goals as goal

pub returns-in-Ok : goal.returns-in-Ok
returns-in-Ok g c = record { rollout = Ok c.in-Ok.plan; gives = c.in-Ok.ensures; ends = c.left_plan.ensures }

pub returns-in-Err : goal.returns-in-Err
returns-in-Err g c = record { rollout = Err c.in-Err.ending; gives = c.in-Err.ensures; ends = (refl, refl, refl) }
