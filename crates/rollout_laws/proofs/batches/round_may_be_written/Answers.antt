use Rattle.rollout_laws.proofs.Rounds.{round_may_be_written}
use Rattle.rollout_laws.proofs.batches.round_may_be_written.Goals as goal

pub returns : goal.returns
returns c = round_may_be_written
