use Rattle.fewest_plan.proofs.Fitting.{step-fits, next-fits}
use Rattle.fewest_plan.proofs.laws.each_step_passes_the_test.Goals as goal

pub returns-clause-step : goal.returns-clause-step
returns-clause-step c = step-fits

pub returns-clause-next : goal.returns-clause-next
returns-clause-next c = next-fits
