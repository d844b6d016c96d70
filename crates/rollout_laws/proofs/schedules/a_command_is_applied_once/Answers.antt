use Rattle.rollout_rules.specs.World.{first_world, after_events}
use Rattle.rollout_laws.proofs.Delivery.{sent-applied, sent-repeated}
use Rattle.rollout_laws.proofs.Worlds.{every_world_is_kept}
use Rattle.rollout_laws.proofs.schedules.a_command_is_applied_once.Goals as goal

pub returns : goal.returns
returns c = record {
  next = λ p plan start migration first es sound firsts. sent-applied p plan (after_events p plan (first_world p plan start migration first) es) (every_world_is_kept p plan start migration first es sound firsts);
  repeated = λ p plan start migration first es sound firsts. sent-repeated p plan (after_events p plan (first_world p plan start migration first) es) (every_world_is_kept p plan start migration first es sound firsts);
}
