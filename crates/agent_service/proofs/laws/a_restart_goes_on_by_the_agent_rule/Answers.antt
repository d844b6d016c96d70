use Rattle.agent_service.proofs.Restarts.{goes_on}
use Rattle.agent_service.proofs.laws.a_restart_goes_on_by_the_agent_rule.Goals as goal

pub returns : goal.returns
returns c = goes_on
