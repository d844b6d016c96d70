use Rattle.plan_choose.proofs.Enough.{chosen_tells}
use Rattle.plan_choose.proofs.laws.every_cause_is_told.Goals as goal

pub returns : goal.returns
returns c = chosen_tells
