use Rattle.scratch_plan.proofs.Causes.{room, one_short}
use Rattle.scratch_plan.proofs.laws.refusals_leave_nothing_out.Goals as goal

pub returns-clause-room : goal.returns-clause-room
returns-clause-room c = room

pub returns-clause-short : goal.returns-clause-short
returns-clause-short c = one_short
