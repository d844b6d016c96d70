use Rattle.fewest_plan.proofs.Fitting.{goes-far}
use Rattle.fewest_plan.proofs.laws.a_flow_goes_as_far_as_it_may.Goals as goal

pub returns : goal.returns
returns c = goes-far
