use Rattle.order_policy.specs.Answers.{rank_by}
use Rattle.shared_book.specs.Opened.{opening_of}
use Rattle.measure.proofs.waiting.wait_opened.Given as goal

-- the opening of this book, at this moment of its disk; any answer counts as heard
abbrev pub ghosts-wait_named : goal.ghosts-wait_named
ghosts-wait_named g a = record {
  opening = opening_of a.book.chronicle (rank_by a.book.policy.now.answers);
  moment = (g.D.Disk.told a.book.chronicle.disk).moment;
  faults = (g.D.Disk.told a.book.chronicle.disk).faults;
  stood = g.D.Disk.told a.book.chronicle.disk;
  seats = 2;
  migration = 0;
  heard = λ answer. Unit {0};
}
