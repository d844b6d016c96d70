-- The promise of `agent`, which serves the guests of the fleet.
use Rattle.std.specs.Prelude.{◌≡◌, ℕ}
use Rattle.agent_service.specs.Services.{guests_of}
use Rattle.swanroll_top.specs.Agents.{RunsAgent, ServesAs}
use Rattle.text_commands.specs.CommandEnds.{status_of}
use Rattle.text_commands.specs.Program.{NotesLine}
use Rattle.swanroll_top.specs.Views.{Objects, Outside, Views, streams, used, written_at}
use Rattle.text_commands.specs.declared.command_end.CommandEnd.{CommandEnd}

-- what an agent has brought about that ended so
abbrev pub BringsService : {S K D F P G : Type 0} → Views S K D F P G → ℕ → Objects S K D F → CommandEnd → Objects S K D F → Type 0
BringsService views guests before ending after =
    RunsAgent views.guest guests (guests_of (views.fleet before.fleet)) (guests_of (views.fleet after.fleet)) ending (written_at views before) (written_at views after)

-- How an agent ended, said once: the guests that it served and what was written, the status, and the line of the notes.
pub record ServesAsOne {S K D F P G : Type 0} (views : Views S K D F P G) (guests : ℕ) (before : Outside S K D F) (status : ℕ) (after : Outside S K D F) : Type 0 where
  pub ending : CommandEnd
  pub brings : BringsService views guests (used before) ending (used after)
  pub is_status : status ≡ status_of ending
  pub line : NotesLine ending (streams views before) (streams views after)

pub record AgentPromise {S K D F P G : Type 0} (views : Views S K D F P G) (guests : ℕ) (before : Outside S K D F) (status : ℕ) (after : Outside S K D F) : Type 0 where
  -- One agent serves so many guests turn by turn, up to 64 at once, and gives each back; the line says what came of it. After each read it keeps no more
  -- items than a document within the limits has (`few` of `HearsOne`).
  pub serves : ServesAs views.guest guests (guests_of (views.fleet before.fleet)) (guests_of (views.fleet after.fleet)) status (written_at views (used before)) (written_at views (used after))
  -- the guests, what was written, the status and the line are those of one ending
  pub one : ServesAsOne views guests before status after
