use Rattle.std.proofs.Common.{◌<◌, List, All, subst, sym}
use Rattle.shared_book.specs.declared.note.Written.{Written}
use Rattle.turn_lock.specs.Passes.{given_of}
use Rattle.rollout_book.specs.JournaledRounds.{Journaled}
use Rattle.shared_book.specs.Calls.{seat_of}
use Rattle.shared_book.specs.Images.{StaysOpened}
use Rattle.shared_book.specs.Lasting.{AllHeard}
use Rattle.shared_book.proofs.seats.LockedBook+NotedBook+D+M+ref+Policy.close.Goals as goal

pub returns-clause-made : goal.returns-clause-made
returns-clause-made g c = subst (λ (ws : List Written). All (λ w. seat_of w < given_of c.args.pass.pass) ws) c.close.ensures.history c.close.ensures.made

pub returns-clause-heard : goal.returns-clause-heard
returns-clause-heard g c = subst (AllHeard g.M.Marker.heard) c.close.ensures.history c.into_parts-chronicle.ensures.heard

pub returns-clause-stays : goal.returns-clause-stays
returns-clause-stays g c =
    subst (λ (b : Journaled g.row.D.Denot). StaysOpened g.D.Disk.told g.M.Marker.opening g.M.Marker.stood b.disk) (sym c.into_parts-chronicle.ensures.book) c.into_parts-chronicle.ensures.stays
