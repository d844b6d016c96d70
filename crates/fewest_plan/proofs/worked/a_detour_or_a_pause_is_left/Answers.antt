use Rattle.std.proofs.Common.{refl}
use Rattle.fewest_plan.specs.Stuck.{stuck_link}
use Rattle.fewest_plan.proofs.worked.a_detour_or_a_pause_is_left.Goals as goal

pub returns-clause-detour : goal.returns-clause-detour
unfolding stuck_link
returns-clause-detour c = refl

pub returns-clause-pause : goal.returns-clause-pause
unfolding stuck_link
returns-clause-pause c = refl
