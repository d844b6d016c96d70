use Rattle.swanroll_top.proofs.KeptAgents.{told_done}
use Rattle.swanroll_top.proofs.kept_agent.keep_opened.Goals as goal

pub returns-clause-served : goal.returns-clause-served
returns-clause-served g c = λ zero. c.serve-ending.ensures.served (told_done c.serve-ending.result c.tell-status.result zero c.tell-status.ensures)
