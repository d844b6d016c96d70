use Rattle.rollout_laws.proofs.Released.{least-goes_on, never-stuck}
use Rattle.rollout_laws.proofs.progress.some_operation_may_begin.Goals as goal

pub returns : goal.returns
returns c = record { behind = least-goes_on; some = never-stuck }
