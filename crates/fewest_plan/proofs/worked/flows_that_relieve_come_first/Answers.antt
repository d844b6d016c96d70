use Rattle.std.proofs.Common.{refl}
use Rattle.fewest_plan.proofs.worked.flows_that_relieve_come_first.Goals as goal

pub returns : goal.returns
returns c = refl
