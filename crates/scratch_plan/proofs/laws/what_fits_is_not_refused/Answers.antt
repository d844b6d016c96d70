use Rattle.scratch_plan.proofs.Causes.{nothing_refused}
use Rattle.scratch_plan.proofs.laws.what_fits_is_not_refused.Goals as goal

pub returns : goal.returns
returns c = nothing_refused
