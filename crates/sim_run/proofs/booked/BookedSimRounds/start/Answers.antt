use Rattle.std.proofs.Common.{◌≡◌, length, subst}
use Rattle.std.specs.Prelude.{IfOk}
use Rattle.sim_run.specs.Keeping.{Keeping}
use Rattle.sim_run.proofs.Books.{seat-starts}
use Rattle.sim_run.proofs.booked.BookedSimRounds.start.Goals as goal

pub returns-clause-same : goal.returns-clause-same
returns-clause-same c =
    seat-starts c.reopen.result c.self.inside.seat c.reopen.new.seat c.args.self.now c.self.view_is c.requires.live c.reopen.ensures.same c.reopen.ensures.live

pub returns-clause-found : goal.returns-clause-found
returns-clause-found c =
    subst (λ (k : Keeping). IfOk c.reopen.result (λ found. found ≡ length k.graph.history.entries)) c.self.view_is c.reopen.ensures.found
