use Rattle.shared_book.proofs.HeardDones.{heard-at}
use Rattle.shared_book.proofs.Staying.{stays-at}
use Rattle.shared_book.proofs.noted_book.NotedBook.into_parts.Goals as goal

pub returns-clause-heard : goal.returns-clause-heard
returns-clause-heard g c = heard-at g.M.Marker.heard _ _ c.self.view_is c.self.invariant.2

pub returns-clause-stays : goal.returns-clause-stays
returns-clause-stays g c = stays-at g.D.Disk.told g.M.Marker.opening g.M.Marker.stood _ _ c.self.view_is c.self.invariant.3
