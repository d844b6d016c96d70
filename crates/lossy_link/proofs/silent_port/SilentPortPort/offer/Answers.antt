use Rattle.lossy_link.proofs.Silent.{silent_step}
use Rattle.lossy_link.proofs.silent_port.SilentPortPort.offer.Goals as goal

pub returns-in-Ok-clause-by_rule : goal.returns-in-Ok-clause-by_rule
returns-in-Ok-clause-by_rule c = silent_step _

pub returns-in-Err-clause-by_rule : goal.returns-in-Err-clause-by_rule
returns-in-Err-clause-by_rule c = silent_step _
