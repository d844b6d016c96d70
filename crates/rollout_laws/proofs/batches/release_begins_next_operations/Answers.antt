use Rattle.rollout_laws.proofs.Rounds.{release_begins_next, release_begins_once, release_begins_unheld}
use Rattle.rollout_laws.proofs.batches.release_begins_next_operations.Goals as goal

pub returns : goal.returns
returns c = record { next = release_begins_next; once = release_begins_once; unheld = release_begins_unheld }
