-- All bytes that came are the front of an answer still.
use Rattle.std.proofs.Common.{◌≡◌}
use Rattle.host_edge.proofs.Sorting.{CutSoFar}
use Rattle.host_edge.proofs.connection.Connection.await_answer.Given as goal

abbrev pub invariant-loop : goal.invariant-loop
invariant-loop g l = record {
  cut : CutSoFar (g.S.Read.remaining l.initial.self.stream) (g.S.Read.remaining l.self.stream) l.initial.self.inbox l.self.inbox l.initial.self.came l.self.came;
  outbox : l.self.outbox ≡ l.initial.self.outbox;
}
