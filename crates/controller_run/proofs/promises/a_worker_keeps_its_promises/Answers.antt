use Rattle.controller_run.proofs.Keeps.{serves-keeps}
use Rattle.controller_run.proofs.promises.a_worker_keeps_its_promises.Goals as goal

pub returns : goal.returns
returns g c = λ o seat joined migration homes rounds before end now live quiet served.
    serves-keeps g.T.Port.told o seat joined migration homes rounds before quiet end now live served
