use Rattle.sim_run.proofs.Drawing.{is_script, is_whole_script}
use Rattle.sim_run.specs.Trials.{trial_script}
use Rattle.sim_run.proofs.Schedules.{rehearsal-is_safe}
use Rattle.sim_run.proofs.laws.a_trial_is_a_script.Goals as goal

pub returns-clause-events : goal.returns-clause-events
returns-clause-events c = is_script

pub returns-clause-whole : goal.returns-clause-whole
returns-clause-whole c = is_whole_script

pub returns-clause-safe : goal.returns-clause-safe
returns-clause-safe c p plan policy draws events = rehearsal-is_safe p plan policy (trial_script p plan policy draws events)
