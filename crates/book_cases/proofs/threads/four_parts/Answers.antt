use denote.Exit.{no}
use denote.Param.{param}
use denote.Param.Callables.{held_fn}
use denote.Param.Object.{Vt, ghosts_of}
use denote.Param.Send.{param_send, arg_send, shr_sync, sendable}
use Rattle.shared_book.proofs.locked_book.LockedBook.TheSendSync as shared
use Rattle.shared_book.specs.contracts.note.Written as written
use Rattle.shared_book.specs.contracts.noted_book.NotedBookCounted.TheImpl as counted
use Rattle.controller_run.proofs.Sends.{kept_send, policy_sync}
use Rattle.book_cases.specs.contracts.threads.four_parts.dyn-1.{slots}
use Rattle.book_cases.proofs.threads.SeatJob.TheSendSync as duty
use Rattle.book_cases.proofs.threads.Back.TheSendSync as back
use Rattle.book_cases.proofs.threads.four_parts.Goals as goal

pub four_jobs-requires-send-J : goal.four_jobs-requires-send-J
four_jobs-requires-send-J g c κs within =
    let asks = slots g.row.R g.row.D g.row.M in
    let kept = kept_send (param 1 g.row.D) (param 2 g.row.M) g.D.Disk g.M.Marker c.type_bounds.send-D c.type_bounds.send-M in
    let policy = policy_sync (Vt asks g.dyn-1.0) (ghosts_of asks g.dyn-1.0 g.dyn-1.1) (held_fn g.dyn-1.0) g.dyn-1.3 (search sendable) in
    let counts = counted.ghosts (param 1 g.row.D) (param 2 g.row.M) g.D.Disk g.D.Disk-dict g.M.Marker g.M.Marker-dict in
    param_send _ _ (arg_send _ no _ (duty.the_send _ _ _ _ written.the_row counts kept c.type_bounds.sync-R (shared.the_sync _ _ written.the_row counts kept (shr_sync _ _ _ policy))))

pub four_jobs-requires-send-J-Output : goal.four_jobs-requires-send-J-Output
four_jobs-requires-send-J-Output g c κs within =
    let kept = kept_send (param 1 g.row.D) (param 2 g.row.M) g.D.Disk g.M.Marker c.type_bounds.send-D c.type_bounds.send-M in
    let counts = counted.ghosts (param 1 g.row.D) (param 2 g.row.M) g.D.Disk g.D.Disk-dict g.M.Marker g.M.Marker-dict in
    param_send _ _ (arg_send _ no _ (back.the_send _ written.the_row counts kept))
