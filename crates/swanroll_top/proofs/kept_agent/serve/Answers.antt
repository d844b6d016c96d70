use Rattle.swanroll_top.proofs.KeptAgents.{written_line}
use Rattle.swanroll_top.proofs.kept_agent.serve.Goals as goal

pub returns-in-Ok-clause-served : goal.returns-in-Ok-clause-served
returns-in-Ok-clause-served g c = λ zero. (c.in-Ok.service, c.in-Ok.ensures.keeps, written_line _ c.write_service.result _ _ zero c.write_service.ensures.own c.write_service.ensures.follows)
