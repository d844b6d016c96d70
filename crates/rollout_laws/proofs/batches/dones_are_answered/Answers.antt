use Rattle.rollout_laws.proofs.Rounds.{dones_are_answered}
use Rattle.rollout_laws.proofs.batches.dones_are_answered.Goals as goal

pub returns : goal.returns
returns c = dones_are_answered
