use Rattle.rollout_laws.proofs.Released.{none-held, held-none, release-goes_on}
use Rattle.rollout_laws.proofs.progress.release_goes_on.Goals as goal

pub returns : goal.returns
returns c = record { held = none-held; none = held-none; some = release-goes_on }
