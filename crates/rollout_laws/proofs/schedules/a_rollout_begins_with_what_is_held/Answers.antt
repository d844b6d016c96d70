use Rattle.rollout_laws.proofs.Keeping.{first_pairs-from, first_pairs-are, held-first_pair, held-start}
use Rattle.rollout_laws.proofs.schedules.a_rollout_begins_with_what_is_held.Goals as goal

pub returns : goal.returns
returns c = record { may = λ p start migration first. (first_pairs-from p start migration first, first_pairs-are p start migration first); pairs = held-first_pair; contents = held-start }
