use Rattle.rollout_laws.proofs.Safety.{legal-safe}
use Rattle.rollout_laws.proofs.safe.every_legal_history_is_safe.Goals as goal

pub returns : goal.returns
returns c = legal-safe
