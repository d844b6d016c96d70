use Rattle.rollout_rules.proofs.Pairs.{held_after-probe, probe_never_next}
use Rattle.held_service.proofs.laws.number_0_is_never_the_next.Goals as goal

pub returns : goal.returns
returns c = record { next = probe_never_next; kept = held_after-probe }
