use Rattle.plan_choose.proofs.Enough.{chosen-valid}
use Rattle.plan_choose.proofs.laws.what_is_chosen_is_valid.Goals as goal

pub returns : goal.returns
returns c = chosen-valid
