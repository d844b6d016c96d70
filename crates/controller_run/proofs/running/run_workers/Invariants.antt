use Rattle.std.specs.Prelude.{max}
use Rattle.order_policy.specs.Answers.{rank_by}
use Rattle.port_session.specs.Standing.{WasHeard}
use Rattle.shared_book.specs.Opened.{opening_of}
use Rattle.controller_run.proofs.running.run_workers.Given as goal

-- the opening of this book, at this moment of its disk, and what these ports have told
abbrev pub ghosts-run_named : goal.ghosts-run_named
ghosts-run_named g a = record {
  opening = opening_of a.book.chronicle (rank_by a.book.policy.now.answers);
  moment = (g.D.Disk.told a.book.chronicle.disk).moment;
  faults = (g.D.Disk.told a.book.chronicle.disk).faults;
  stood = g.D.Disk.told a.book.chronicle.disk;
  seats = max 1 a.limits.workers;
  migration = a.limits.migration;
  heard = λ answer. WasHeard g.T.Port.told (a.limits.migration, answer);
}
