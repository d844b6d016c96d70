use Rattle.std.proofs.Common.{refl}
use Rattle.plan_choose.proofs.worked.a_step_that_fits_is_direct.Goals as goal

pub returns-clause-swap : goal.returns-clause-swap
returns-clause-swap c = refl

pub returns-clause-table : goal.returns-clause-table
returns-clause-table c = refl

pub returns-clause-wide : goal.returns-clause-wide
returns-clause-wide c = refl
