use Rattle.std.proofs.Common.{Err, Ok, refl}
use Rattle.takeover_top.proofs.taking.take_input.Goals as goal

pub returns-in-Ok-clause-takes : goal.returns-in-Ok-clause-takes
returns-in-Ok-clause-takes g c = record { rollout = Ok c.in-Ok.plan; gives = c.in-Ok.ensures; ends = c.take_plan.ensures.takes }

pub returns-in-Err-clause-takes : goal.returns-in-Err-clause-takes
returns-in-Err-clause-takes g c = record { rollout = Err c.in-Err.ending; gives = c.in-Err.ensures; ends = (refl, refl, refl, refl) }
