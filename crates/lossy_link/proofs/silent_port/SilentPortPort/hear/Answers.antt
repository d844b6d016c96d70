use Rattle.lossy_link.proofs.Silent.{silent_step}
use Rattle.lossy_link.proofs.silent_port.SilentPortPort.hear.Goals as goal

pub returns-clause-by_rule : goal.returns-clause-by_rule
returns-clause-by_rule c = silent_step _
