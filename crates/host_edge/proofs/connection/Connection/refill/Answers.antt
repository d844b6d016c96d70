use Rattle.std.proofs.Common.{[], sym}
use Rattle.std.proofs.lemmas.List.{append-nil}
use Rattle.std.proofs.KnownBytes.{Consumes-nil}
use Rattle.host_edge.proofs.Sorting.{gives_nothing}
use Rattle.host_edge.proofs.connection.Connection.refill.Goals as goal

pub returns-clause-sorted : goal.returns-clause-sorted
returns-clause-sorted g c =
    let now = c.args.self.now in
    ([], Consumes-nil (g.S.Read.remaining now.stream), gives_nothing now.inbox c.is_empty.ensures.begun, sym (append-nil now.came))
