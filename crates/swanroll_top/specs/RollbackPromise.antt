-- The promise of `rollback`, which levels the rollout of its input from the journal on the disk over the ports of the fleet, and puts a journal of the way back in its place.
use Rattle.std.specs.Prelude.{◌≡◌, ◌≢◌, ℕ}
use Rattle.switch_ports.specs.Berths.{ports_of}
use Rattle.agent_service.specs.Services.{guests_of}
use Rattle.rollback_service.specs.declared.origin.BackFrom.{BackFrom}
use Rattle.controller_run.specs.declared.running.Limits.{Limits}
use Rattle.text_commands.specs.CommandEnds.{status_of}
use Rattle.swanroll_top.specs.LevelTargets.{EndsBackSafely, IsTakenBack, LevelsSafely}
use Rattle.text_commands.specs.Lines.{IsToldAs}
use Rattle.swanroll_top.specs.NextRollbacks.{NextStartEither}
use Rattle.text_commands.specs.Program.{NotesLine}
use Rattle.swanroll_top.specs.Reports.{ReadsDocument}
use Rattle.swanroll_top.specs.Rollbacks.{Reverts, RevertsAs}
use Rattle.swanroll_top.specs.Rollouts.{RunsRollout, fleet_of}
use Rattle.swanroll_top.specs.RunPromise.{RollsAndNotes}
use Rattle.swanroll_top.specs.Targets.{IsOfBegun}
use Rattle.swanroll_top.specs.Views.{Objects, Outside, Views, input_of, source_at, streams, used, written_at}
use Rattle.text_commands.specs.declared.command_end.CommandEnd.{CommandEnd}

-- what a rollback has brought about that ended so
pub record BringsRollback {S K D F P G : Type 0} (views : Views S K D F P G) (origin : BackFrom) (limits : Limits) (before : Objects S K D F) (ending : CommandEnd) (after : Objects S K D F) : Type 0 where
  pub runs : RunsRollout (source_at views before) (source_at views after) ending (written_at views before) (written_at views after)
  pub guests : guests_of (views.fleet after.fleet) ≡ guests_of (views.fleet before.fleet)
  pub rolls : Reverts views.disk views.port
      (input_of views before after) origin limits before.disk after.disk (fleet_of (views.fleet before.fleet)) (fleet_of (views.fleet after.fleet)) ending (written_at views before) (written_at views after)

-- How a rollback ended, said once, as of a run: what came of the disk and of the ports and what was written, the status, and the line of the notes.
pub record RollsBackAsOne {S K D F P G : Type 0} (views : Views S K D F P G) (origin : BackFrom) (limits : Limits) (before : Outside S K D F) (status : ℕ) (after : Outside S K D F) : Type 0 where
  -- how it ended
  pub ending : CommandEnd
  -- what it has brought about that ended so
  pub brings : BringsRollback views origin limits (used before) ending (used after)
  -- the ending that is told: this one, or lack of memory for its line
  pub told : CommandEnd
  pub told_as : IsToldAs ending told
  -- the status and the line are those of the ending that is told
  pub is_status : status ≡ status_of told
  pub line : NotesLine told (streams views before) (streams views after)

pub record RollbackPromise {S K D F P G : Type 0} (views : Views S K D F P G) (origin : BackFrom) (limits : Limits) (before : Outside S K D F) (status : ℕ) (after : Outside S K D F) : Type 0 where
  -- unless the source failed or memory ran out, an input is refused that is no document with a valid plan
  pub does : status ≢ 6 → status ≢ 12 → RollsAndNotes (streams views before) (streams views after) status
  -- disk and ports, what was written, the status and the line are those of one ending
  pub one : RollsBackAsOne views origin limits before status after
  -- no guest is asked for
  pub serves : guests_of (views.fleet after.fleet) ≡ guests_of (views.fleet before.fleet)
  -- the rollout is levelled from what the journal had, and taken back where it is level, or disk and ports are as they were
  pub rolls : RevertsAs views.disk views.port
      (input_of views (used before) (used after)) origin limits before.disk after.disk (fleet_of (views.fleet before.fleet)) (fleet_of (views.fleet after.fleet)) status (written_at views (used before)) (written_at views (used after))
  -- a disk fails only after an input that was read to its end and isn't refused
  pub failed : status ≡ 8 → ReadsDocument (views.source before.source) (views.source after.source)
  -- whenever a crash comes, the next start of this rollout, or that of its way back where this was placed, isn't refused for what this one has left
  pub next : NextStartEither views.disk origin limits (input_of views (used before) (used after)) before.disk after.disk
  -- whatever the status, nothing was begun, or the network is safe and nothing was begun past what the journal had begun but what leads up to the stage
  pub ends : EndsBackSafely views.disk views.port origin limits (input_of views (used before) (used after)) before.disk after.disk (ports_of (views.fleet before.fleet)) (ports_of (views.fleet after.fleet))
  -- the network is safe after each rollback that was begun, and nothing was begun past that
  pub safe : IsOfBegun status
      → LevelsSafely views.disk views.port origin limits (input_of views (used before) (used after)) before.disk after.disk (ports_of (views.fleet before.fleet)) (ports_of (views.fleet after.fleet))
  -- and after status 0 it has come exactly so far, and its way back begins there; where it was asked for, it is level at the stage to which it had come
  pub back : status ≡ 0
      → IsTakenBack views.disk views.port origin limits (input_of views (used before) (used after)) before.disk after.disk (ports_of (views.fleet before.fleet)) (ports_of (views.fleet after.fleet))
      (written_at views (used before)) (written_at views (used after))
