use Rattle.std.proofs.Common.{refl}
use Rattle.fewest_plan.specs.Stuck.{stuck_link}
use Rattle.fewest_plan.proofs.worked.full_links_are_stuck.Goals as goal

pub returns : goal.returns
unfolding stuck_link
returns c = refl
