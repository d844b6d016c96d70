-- The promise of `plan`, `check`, `loads`, `explain`, `back`, `least`, `sim` and `rehearse`, which make a text of their input.
use Rattle.std.specs.Prelude.{◌≡◌, ◌≢◌, ℕ}
use Rattle.text_commands.specs.CommandEnds.{status_of}
use Rattle.text_commands.specs.Program.{NotesLine, Streams}
use Rattle.text_commands.specs.Runs.{FollowsInput}
use Rattle.text_commands.specs.Words.{TextAsked}
use Rattle.text_commands.specs.declared.command_end.CommandEnd.{CommandEnd}

-- The whole of a run that read its input: the status, what was written and the line of the notes follow from it.
pub record RunsAndNotes (asked : TextAsked) (before after : Streams) (status : ℕ) : Type 0 where
  pub ending : CommandEnd
  pub is_status : status ≡ status_of ending
  pub follows : FollowsInput asked before.source after.source ending before.sink.written after.sink.written
  pub line : NotesLine ending before after

pub record TextPromise (asked : TextAsked) (before after : Streams) (status : ℕ) : Type 0 where
  -- unless the source failed or memory ran out, all follows from the bytes read
  pub does : status ≢ 6 → status ≢ 12 → RunsAndNotes asked before after status
