use Rattle.rollout_rules.specs.History.{no_start}
use Rattle.rollout_laws.proofs.SafeWorlds.{every_world_is_safe}
use Rattle.rollout_laws.proofs.SoundStarts.{no_start-sound}
use Rattle.retarget_plan.proofs.laws.a_rollout_may_go_on_elsewhere.Goals as goal

pub returns : goal.returns
returns c = λ q on migration first es net valid firsts. every_world_is_safe q on (no_start q) migration first es net valid (no_start-sound q on valid) firsts
