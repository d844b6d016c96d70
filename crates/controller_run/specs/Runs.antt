-- What a run comes to.
use Rattle.std.specs.Prelude.{◌≡◌, ℕ, ◌<◌, Bool, true, false, List, All, Option, Some, None, if◌then◌else◌}
use Rattle.rollout_rules.specs.Legal.{is_finished}
use Rattle.disk_model.specs.Traces.{DiskTrace}
use Rattle.port_session.specs.Sessions.{SessionView}
use Rattle.wan_edge.specs.Ports.{PortTrace}
use Rattle.rollout_book.specs.JournaledRounds.{Journaled}
use Rattle.shared_book.specs.declared.note.Cause.{Cause}
use Rattle.shared_book.specs.declared.note.Cause.TheVariants as cause
use Rattle.shared_book.specs.declared.note.Written.{Written}
use Rattle.shared_book.specs.declared.call_reply.Halt.{Halt}
use Rattle.shared_book.specs.Histories.{Opening, history_of}
use Rattle.shared_book.specs.Legal.{is_legal_shared}
use Rattle.shared_book.specs.Notes.{cause_of_fault, first_stop}
use Rattle.shared_book.specs.Calls.{seat_of}
use Rattle.shared_book.specs.Homes.{homes_of}
use Rattle.shared_book.specs.Images.{HasImages}
use Rattle.shared_book.specs.Lasting.{AllTold}
use Rattle.shared_book.specs.Opened.{IsClosed}
use Rattle.shared_book.specs.declared.reply.RoundReply.{RoundReply}
use Rattle.shared_book.specs.declared.reply.RoundReply.TheVariants as round
use Rattle.controller_run.specs.Together.{HasWorked}
use Rattle.controller_run.specs.declared.end.RunEnd.{RunEnd}
use Rattle.controller_run.specs.declared.end.RunEnd.TheVariants as run

-- how the history says that a run has ended which has begun
abbrev pub IsRunEnd : Opening → List Written → RunEnd → Type 0
IsRunEnd o log run.Finished = (first_stop log ≡ None) × (is_finished o.rollout.problem o.rollout.plan (history_of o log) ≡ true)
IsRunEnd o log run.Held = (first_stop log ≡ None) × (is_finished o.rollout.problem o.rollout.plan (history_of o log) ≡ false)
IsRunEnd o log (run.Stopped halt) = first_stop log ≡ Some halt
IsRunEnd o log (run.NoPort switch) = ⊥
IsRunEnd o log run.Memory = ⊥

-- A book was shared by workers, and closed after a legal history of theirs; the disk is what that history leaves. Each note is of a worker that
-- has worked as the history tells. An answer that a port of this kind had told covers each operation that its notes end.
pub record Runs {D P : Type 0} (trace : D → DiskTrace) (tell : P → PortTrace) (o : Opening) (from count migration rounds : ℕ) (whole : List (SessionView P)) (end : RunEnd) (book : Journaled D) (ports : List (SessionView P)) : Type 0 where
  pub log : List Written
  pub seats : ℕ
  pub legal : is_legal_shared o log ≡ true
  pub closed : IsClosed o log book
  pub images : HasImages trace o from count book.disk log
  pub heard : AllTold tell migration log
  pub made : All (λ w. seat_of w < seats) log
  pub worked : HasWorked tell o migration (homes_of o.rollout.problem) rounds whole seats log ports
  pub ends : IsRunEnd o log end

-- what holds of a run that has begun, and of one that hasn't for lack of memory
abbrev pub IsRun : RunEnd → Type 0 → Type 0 → Type 0
IsRun run.Finished begun unbegun = begun
IsRun run.Held begun unbegun = begun
IsRun (run.Stopped halt) begun unbegun = begun
IsRun (run.NoPort switch) begun unbegun = ⊥
IsRun run.Memory begun unbegun = unbegun

-- how a run ends with this first stop, where every operation is settled or not
abbrev pub end_with : Option Halt → Bool → RunEnd
end_with (Some halt) finished = run.Stopped halt
end_with None finished = if finished then run.Finished else run.Held

-- why all is to stop after a round
abbrev pub cause_behind : RoundReply → Option Cause
cause_behind (round.Turned turn) = None
cause_behind (round.Refused why) = Some (cause_of_fault why)
cause_behind (round.Stopped halt) = Some halt.cause
cause_behind round.Memory = Some cause.Memory
