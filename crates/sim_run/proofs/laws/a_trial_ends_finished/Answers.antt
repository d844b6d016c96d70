use Rattle.sim_run.proofs.Drained.{trial-ends}
use Rattle.sim_run.proofs.laws.a_trial_ends_finished.Goals as goal

pub returns : goal.returns
returns c = λ p plan policy draws events net valid free fits. trial-ends p plan policy net valid free draws events fits
