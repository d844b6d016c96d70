use Rattle.std.proofs.Common.{append-nil, sym, []}
use Rattle.completion_laws.proofs.WholeRounds.{reached}
use Rattle.completion_laws.proofs.Stopping.{excused-quiet}
use Rattle.completion_laws.proofs.rounds.each_round_settles_an_operation.Goals as goal

pub returns : goal.returns
returns g c = λ o seat joined migration homes rounds before moments at net valid small same legal quiet ups are others.
    let tell = g.T.Port.told in
    let here = reached tell o seat joined migration homes rounds net valid small same before legal ups at.stands.seen others moments at (excused-quiet seat before.seen quiet) are ([], sym (append-nil at.stands.seen)) in
    (here.spent, here.ports)
