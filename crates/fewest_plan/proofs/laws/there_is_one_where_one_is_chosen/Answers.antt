use Rattle.fewest_plan.proofs.Chosen.{fewest-there}
use Rattle.fewest_plan.proofs.laws.there_is_one_where_one_is_chosen.Goals as goal

pub returns : goal.returns
returns c = fewest-there
