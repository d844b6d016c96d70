use Rattle.std.proofs.Common.{sym}
use Rattle.sim_run.proofs.Books.{seat-own}
use Rattle.sim_run.proofs.booked.open_again.Goals as goal

pub open_after_crash-requires : goal.open_after_crash-requires
open_after_crash-requires c = seat-own c.args.seat.now c.in-Some.book (sym c.in-Some.ensures.value) c.requires.own c.requires.live
