use Rattle.fewest_plan.proofs.Chosen.{fewest-valid}
use Rattle.fewest_plan.proofs.laws.what_is_found_is_valid.Goals as goal

pub returns : goal.returns
returns c = fewest-valid
