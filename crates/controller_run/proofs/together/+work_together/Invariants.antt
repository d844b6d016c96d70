use Rattle.std.proofs.Common.{length}
use Rattle.controller_run.proofs.together.+work_together.Given as goal

abbrev pub decreases-work_together : goal.decreases-work_together
decreases-work_together g a = length a.team.crews.items
