use Rattle.completion_laws.proofs.WholeRounds.{worker-excused}
use Rattle.completion_laws.proofs.Stopping.{excused-quiet}
use Rattle.completion_laws.proofs.rounds.a_worker_stops_for_an_excuse.Goals as goal

pub returns : goal.returns
returns g c = λ o seat joined migration homes rounds before halt now net valid small same legal quiet ups enough served others mine.
    worker-excused g.T.Port.told o seat joined migration homes rounds net valid small same before legal ups (excused-quiet seat before.seen quiet) enough halt now served others mine
