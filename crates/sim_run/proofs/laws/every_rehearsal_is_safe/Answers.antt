use Rattle.sim_run.proofs.Schedules.{rehearsal-is_safe}
use Rattle.sim_run.proofs.laws.every_rehearsal_is_safe.Goals as goal

pub returns : goal.returns
returns c = rehearsal-is_safe
