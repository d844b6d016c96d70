-- The promise of `held`, which asks the switches of the rollout of its input what they hold, over the ports of the fleet.
use Rattle.std.specs.Prelude.{◌≡◌, ◌≢◌, ℕ}
use Rattle.agent_service.specs.Services.{guests_of}
use Rattle.text_commands.specs.CommandEnds.{status_of}
use Rattle.swanroll_top.specs.HeldAsked.{Asks, WritesHeld}
use Rattle.text_commands.specs.Lines.{IsToldAs}
use Rattle.text_commands.specs.Program.{NotesLine}
use Rattle.swanroll_top.specs.Rollouts.{RunsRollout, fleet_of}
use Rattle.swanroll_top.specs.RunPromise.{RollsAndNotes}
use Rattle.swanroll_top.specs.Views.{Objects, Outside, Views, input_of, source_at, streams, used, written_at}
use Rattle.text_commands.specs.declared.command_end.CommandEnd.{CommandEnd}

-- what has been brought about where it ended so
pub record BringsHeld {S K D F P G : Type 0} (views : Views S K D F P G) (rounds : ℕ) (before : Objects S K D F) (ending : CommandEnd) (after : Objects S K D F) : Type 0 where
  pub runs : RunsRollout (source_at views before) (source_at views after) ending (written_at views before) (written_at views after)
  pub guests : guests_of (views.fleet after.fleet) ≡ guests_of (views.fleet before.fleet)
  pub asks : Asks views.port (input_of views before after) rounds (fleet_of (views.fleet before.fleet)) (fleet_of (views.fleet after.fleet)) ending (written_at views before) (written_at views after)

-- How it ended, said once: what was asked and told and written, the status, and the line of the notes.
pub record AsksAsOne {S K D F P G : Type 0} (views : Views S K D F P G) (rounds : ℕ) (before : Outside S K D F) (status : ℕ) (after : Outside S K D F) : Type 0 where
  -- how it ended
  pub ending : CommandEnd
  -- what it has brought about that ended so
  pub brings : BringsHeld views rounds (used before) ending (used after)
  -- the ending that is told: this one, or lack of memory for its line
  pub told : CommandEnd
  pub told_as : IsToldAs ending told
  -- the status and the line are those of the ending that is told
  pub is_status : status ≡ status_of told
  pub line : NotesLine told (streams views before) (streams views after)

pub record HeldPromise {S K D F P G : Type 0} (views : Views S K D F P G) (rounds : ℕ) (before : Outside S K D F) (status : ℕ) (after : Outside S K D F) : Type 0 where
  -- unless the source failed or memory ran out, an input is refused that is no document with a valid plan
  pub does : status ≢ 6 → status ≢ 12 → RollsAndNotes (streams views before) (streams views after) status
  -- what was asked and told, what was written, the status and the line are those of one ending
  pub one : AsksAsOne views rounds before status after
  -- no guest is asked for
  pub serves : guests_of (views.fleet after.fleet) ≡ guests_of (views.fleet before.fleet)
  -- after status 0 all have told, and what was written is what they told
  pub writes : status ≡ 0
      → WritesHeld views.port
      (input_of views (used before) (used after)) rounds (fleet_of (views.fleet before.fleet)) (fleet_of (views.fleet after.fleet)) (written_at views (used before)) (written_at views (used after))
