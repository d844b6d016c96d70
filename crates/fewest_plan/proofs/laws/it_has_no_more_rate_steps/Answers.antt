use Rattle.fewest_plan.proofs.Chosen.{never_more}
use Rattle.fewest_plan.proofs.laws.it_has_no_more_rate_steps.Goals as goal

pub returns : goal.returns
returns c = never_more
