-- The promise of `trial`, which reads nothing.
use Rattle.std.specs.Prelude.{◌≡◌, ◌≢◌, ℕ}
use Rattle.rollout_rules.specs.declared.op.OpView.{OpView}
use Rattle.sim_run.specs.declared.shape.Shape.{Shape}
use Rattle.text_commands.specs.CommandEnds.{status_of}
use Rattle.text_commands.specs.Program.{NotesLine, Streams}
use Rattle.swanroll_top.specs.Tries.{FollowsTrial}
use Rattle.text_commands.specs.declared.command_end.CommandEnd.{CommandEnd}

-- The whole of a trial: the status, what was written and the line of the notes follow from its numbers.
pub record TriesAndNotes (policy : OpView → ℕ) (shape : Shape) (before after : Streams) (status : ℕ) : Type 0 where
  pub ending : CommandEnd
  pub is_status : status ≡ status_of ending
  pub follows : FollowsTrial policy shape before.source after.source ending before.sink.written after.sink.written
  pub line : NotesLine ending before after

pub record TrialPromise (policy : OpView → ℕ) (shape : Shape) (before after : Streams) (status : ℕ) : Type 0 where
  -- unless memory ran out, all follows from the numbers
  pub does : status ≢ 12 → TriesAndNotes policy shape before after status
