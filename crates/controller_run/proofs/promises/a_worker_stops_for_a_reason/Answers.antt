use Rattle.controller_run.proofs.FirstStops.{serves-reason}
use Rattle.controller_run.proofs.promises.a_worker_stops_for_a_reason.Goals as goal

pub returns : goal.returns
returns g c = λ o seat joined migration homes rounds before halt now live quiet served mine.
    serves-reason g.T.Port.told o seat joined migration homes rounds before quiet halt now live served mine
