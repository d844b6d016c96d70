use Rattle.rollout_laws.proofs.Ends.{finished-stand, finished-target, finished-rate, finished-mark}
use Rattle.rollout_laws.proofs.finished.finished_is_at_target.Goals as goal

pub returns : goal.returns
returns c = record { stand = finished-stand; content = finished-target; rates = finished-rate; marks = finished-mark }
