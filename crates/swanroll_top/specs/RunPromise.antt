-- The promise of `run`, which rolls out the plan of its input from the journal on the disk to the ports of the fleet.
use Rattle.std.specs.Prelude.{◌≡◌, ◌≢◌, ℕ}
use Rattle.switch_ports.specs.Berths.{ports_of}
use Rattle.agent_service.specs.Services.{guests_of}
use Rattle.rollout_rules.specs.declared.op.OpView.{OpView}
use Rattle.controller_run.specs.declared.running.Limits.{Limits}
use Rattle.text_commands.specs.CommandEnds.{status_of}
use Rattle.text_commands.specs.Lines.{IsToldAs}
use Rattle.swanroll_top.specs.NextStarts.{NextStart}
use Rattle.text_commands.specs.Program.{NotesLine, Streams}
use Rattle.swanroll_top.specs.Reports.{ReadsDocument}
use Rattle.swanroll_top.specs.Rollouts.{FollowsRollout, Rolls, RollsAs, RunsRollout, fleet_of}
use Rattle.swanroll_top.specs.Targets.{EndsSafely, IsOfBegun, ReachesTarget, StaysSafe}
use Rattle.swanroll_top.specs.Views.{Objects, Outside, Views, input_of, source_at, streams, used, written_at}
use Rattle.text_commands.specs.declared.command_end.CommandEnd.{CommandEnd}

-- what a run has brought about that ended so
pub record BringsRollout {S K D F P G : Type 0} (views : Views S K D F P G) (limits : Limits) (policy : OpView → ℕ) (before : Objects S K D F) (ending : CommandEnd) (after : Objects S K D F) : Type 0 where
  pub runs : RunsRollout (source_at views before) (source_at views after) ending (written_at views before) (written_at views after)
  pub guests : guests_of (views.fleet after.fleet) ≡ guests_of (views.fleet before.fleet)
  pub rolls : Rolls views.disk views.port
      (input_of views before after) limits policy before.disk after.disk (fleet_of (views.fleet before.fleet)) (fleet_of (views.fleet after.fleet)) ending (written_at views before) (written_at views after)

-- The whole of a run that read its input: which inputs are refused, and the line of the notes.
pub record RollsAndNotes (before after : Streams) (status : ℕ) : Type 0 where
  pub ending : CommandEnd
  pub is_status : status ≡ status_of ending
  pub follows : FollowsRollout before.source after.source ending before.sink.written after.sink.written
  pub line : NotesLine ending before after

-- How a run ended, said once: what came of the disk and of the ports and what was written, the status, and the line of the notes.
pub record RollsAsOne {S K D F P G : Type 0} (views : Views S K D F P G) (limits : Limits) (policy : OpView → ℕ) (before : Outside S K D F) (status : ℕ) (after : Outside S K D F) : Type 0 where
  -- how it ended
  pub ending : CommandEnd
  -- what it has brought about that ended so
  pub brings : BringsRollout views limits policy (used before) ending (used after)
  -- the ending that is told: this one, or lack of memory for its line
  pub told : CommandEnd
  pub told_as : IsToldAs ending told
  -- the status and the line are those of the ending that is told
  pub is_status : status ≡ status_of told
  pub line : NotesLine told (streams views before) (streams views after)

pub record RunPromise {S K D F P G : Type 0} (views : Views S K D F P G) (limits : Limits) (policy : OpView → ℕ) (before : Outside S K D F) (status : ℕ) (after : Outside S K D F) : Type 0 where
  -- unless the source failed or memory ran out, an input is refused that is no document with a valid plan
  pub does : status ≢ 6 → status ≢ 12 → RollsAndNotes (streams views before) (streams views after) status
  -- disk and ports, what was written, the status and the line are those of one ending
  pub one : RollsAsOne views limits policy before status after
  -- no guest is asked for
  pub serves : guests_of (views.fleet after.fleet) ≡ guests_of (views.fleet before.fleet)
  -- the plan is rolled out from what the journal had, or disk and ports are as they were
  pub rolls : RollsAs views.disk views.port
      (input_of views (used before) (used after)) limits policy before.disk after.disk (fleet_of (views.fleet before.fleet)) (fleet_of (views.fleet after.fleet)) status (written_at views (used before)) (written_at views (used after))
  -- a disk fails only after an input that was read to its end and isn't refused
  pub failed : status ≡ 8 → ReadsDocument (views.source before.source) (views.source after.source)
  -- whenever a crash comes, the next start of this rollout isn't refused for what this one has left
  pub next : NextStart views.disk limits (input_of views (used before) (used after)) before.disk after.disk
  -- whatever the status, nothing was begun, or the network is safe
  pub ends : EndsSafely views.disk views.port limits (input_of views (used before) (used after)) before.disk (ports_of (views.fleet before.fleet)) (ports_of (views.fleet after.fleet))
  -- the network is safe after every rollout that was begun
  pub safe : IsOfBegun status
      → StaysSafe views.disk views.port limits (input_of views (used before) (used after)) before.disk (ports_of (views.fleet before.fleet)) (ports_of (views.fleet after.fleet))
  -- and after status 0 it is at the target
  pub target : status ≡ 0
      → ReachesTarget views.disk views.port limits (input_of views (used before) (used after)) before.disk (ports_of (views.fleet before.fleet)) (ports_of (views.fleet after.fleet))
      (written_at views (used before)) (written_at views (used after))
