use Rattle.rollout_laws.proofs.Rounds.{batch_follows, batch_is_legal, batch_is_answered}
use Rattle.rollout_laws.proofs.batches.batch_is_legal.Goals as goal

pub returns : goal.returns
returns c = record { follows = batch_follows; legal = batch_is_legal; answered = batch_is_answered }
