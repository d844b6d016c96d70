use Rattle.rollout_laws.proofs.Targets.{every_world_at_target, every_network_at_target}
use Rattle.rollout_laws.proofs.schedules.finished_holds_targets.Goals as goal

pub returns : goal.returns
returns c = record { held = every_world_at_target; network = every_network_at_target }
