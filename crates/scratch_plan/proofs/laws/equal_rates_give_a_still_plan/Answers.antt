use Rattle.scratch_plan.proofs.Stills.{still-valid}
use Rattle.scratch_plan.proofs.laws.equal_rates_give_a_still_plan.Goals as goal

pub returns : goal.returns
returns c = still-valid
