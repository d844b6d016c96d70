use Rattle.swanroll_top.proofs.Complete.{trial-answers, trial-written}
use Rattle.swanroll_top.proofs.laws.a_trial_is_written.Goals as goal

pub returns-clause-answered : goal.returns-clause-answered
returns-clause-answered c = trial-answers

pub returns-clause-written : goal.returns-clause-written
returns-clause-written c = trial-written
