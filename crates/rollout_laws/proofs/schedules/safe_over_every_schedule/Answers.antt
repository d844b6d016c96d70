use Rattle.rollout_laws.proofs.SafeWorlds.{every_world_is_safe, new_world_is_safe}
use Rattle.rollout_laws.proofs.schedules.safe_over_every_schedule.Goals as goal

pub returns : goal.returns
returns c = record { safe = every_world_is_safe; new = new_world_is_safe }
