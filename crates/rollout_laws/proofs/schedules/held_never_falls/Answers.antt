use Rattle.rollout_laws.proofs.Durable.{held_never_falls}
use Rattle.rollout_laws.proofs.schedules.held_never_falls.Goals as goal

pub returns : goal.returns
returns c = held_never_falls
