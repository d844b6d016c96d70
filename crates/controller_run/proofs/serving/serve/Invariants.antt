use Rattle.std.proofs.Common.{List}
use Rattle.std.specs.Prelude.{All, IsTrue}
use Rattle.turn_lock.specs.Passes.{IsPassOf, IsSamePass, seat_of_pass, seats_of, seen_of}
use Rattle.shared_book.specs.Calls.{IsCounted}
use Rattle.controller_run.specs.Serving.{AreWhole, Moment}
use Rattle.controller_run.proofs.serving.serve.Given as goal

-- It is the same seat's pass, all ports are live, and whole rounds have led here.
abbrev pub invariant-loop : goal.invariant-loop
invariant-loop g l = record {
  lock : IsPassOf l.book.lock l.pass.pass;
  same : IsSamePass l.fn.pass.pass l.pass.pass;
  calls : IsCounted l.pass.calls l.pass.pass;
  live : All (λ s. IsTrue s.stream.live) l.ports;
  moments : List (Moment g.row.T.Denot);
  whole : AreWhole g.T.Port.told g.M.Marker.opening (seats_of l.fn.pass.pass) (seat_of_pass l.fn.pass.pass) l.terms.migration l.terms.homes.now l.terms.rounds
      (record { stands = record { seen = seen_of l.fn.pass.pass; ports = l.fn.ports }; left = l.terms.rounds }) moments (record { stands = record { seen = seen_of l.pass.pass; ports = l.ports }; left = l.left });
}
