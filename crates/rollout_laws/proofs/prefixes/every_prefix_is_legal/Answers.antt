use Rattle.rollout_laws.proofs.Histories.{front_is_legal}
use Rattle.rollout_laws.proofs.prefixes.every_prefix_is_legal.Goals as goal

pub returns : goal.returns
returns c = front_is_legal
