use Rattle.completion_laws.proofs.Workers.{alone-apart}
use Rattle.completion_laws.proofs.finishing.one_worker_serves_apart.Goals as goal

pub returns : goal.returns
returns g c = λ shifts ports back. alone-apart shifts ports back
