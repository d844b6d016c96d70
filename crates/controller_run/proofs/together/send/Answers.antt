use Rattle.std.proofs.Common.{subst, sym, refl}
use Rattle.std.specs.Prelude.{IsTrue}
use denote.Exit.{no}
use denote.Param.{param}
use denote.Param.Callables.{held_fn}
use denote.Param.Object.{Vt, ghosts_of}
use denote.Param.Send.{param_send, arg_send, shr_sync, sendable}
use Rattle.port_session.specs.Sessions.{SessionView}
use Rattle.shared_book.proofs.locked_book.LockedBook.TheSendSync as shared
use Rattle.shared_book.specs.contracts.note.Written as written
use Rattle.shared_book.specs.contracts.noted_book.NotedBookCounted.TheImpl as counted
use Rattle.controller_run.specs.contracts.together.send.dyn-1.{slots}
use Rattle.controller_run.proofs.worker.WorkerJob.TheSendSync as duty
use Rattle.controller_run.proofs.worker.WorkerResult.TheSendSync as returned
use Rattle.controller_run.proofs.Sends.{kept_send, policy_sync}
use Rattle.controller_run.proofs.together.send.Goals as goal

pub start-requires-clause-begins : goal.start-requires-clause-begins
start-requires-clause-begins g c κs within = (c.requires.lock, c.requires.homes, c.requires.policy, c.requires.calls, c.requires.seat, λ k d inside. subst (λ (t : SessionView g.row.T.Denot). IsTrue t.stream.live) (sym (c.requires.fresh k d inside)) refl, c.requires.home, c.requires.migration, c.requires.told)

pub start-requires-send-J : goal.start-requires-send-J
start-requires-send-J g c κs within =
    let asks = slots g.row.R g.row.D g.row.M g.row.T g.row.E in
    let kept = kept_send (param 1 g.row.D) (param 2 g.row.M) g.D.Disk g.M.Marker c.type_bounds.send-D c.type_bounds.send-M in
    let policy = policy_sync (Vt asks g.dyn-1.0) (ghosts_of asks g.dyn-1.0 g.dyn-1.1) (held_fn g.dyn-1.0) g.dyn-1.3 (search sendable) in
    let counts = counted.ghosts (param 1 g.row.D) (param 2 g.row.M) g.D.Disk g.D.Disk-dict g.M.Marker g.M.Marker-dict in
    param_send _ _ (arg_send _ no _ (duty.the_send _ _ _ _ _ _ written.the_row counts g.T.Port kept c.type_bounds.send-T c.type_bounds.sync-R (shared.the_sync _ _ written.the_row counts kept (shr_sync _ _ _ policy))))

pub start-requires-send-J-Output : goal.start-requires-send-J-Output
start-requires-send-J-Output g c κs within =
    let kept = kept_send (param 1 g.row.D) (param 2 g.row.M) g.D.Disk g.M.Marker c.type_bounds.send-D c.type_bounds.send-M in
    let counts = counted.ghosts (param 1 g.row.D) (param 2 g.row.M) g.D.Disk g.D.Disk-dict g.M.Marker g.M.Marker-dict in
    param_send _ _ (arg_send _ no _ (returned.the_send _ _ written.the_row counts g.T.Port kept c.type_bounds.send-T))
