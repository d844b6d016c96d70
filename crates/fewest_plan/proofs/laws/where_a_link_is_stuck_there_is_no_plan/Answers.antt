use Rattle.fewest_plan.proofs.Chosen.{fewest-stuck}
use Rattle.fewest_plan.proofs.Stuckness.{stuck-none}
use Rattle.fewest_plan.proofs.laws.where_a_link_is_stuck_there_is_no_plan.Goals as goal

pub returns : goal.returns
returns c p link net e plan valid = stuck-none p link net (fewest-stuck p link e) plan valid
