use Rattle.std.proofs.Common.{refl}
use Rattle.shared_book.proofs.Locked.{call-is}
use Rattle.shared_book.proofs.seats.LockedBook+NotedBook+D+M+ref+Policy.join.Goals as goal

pub returns-clause-calls : goal.returns-clause-calls
returns-clause-calls g c = call-is _ _ c.args.one.calls _ _ _ _ c.requires.calls c.join.ensures.one refl c.join.ensures.pass.seat
