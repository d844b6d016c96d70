-- What `left` brings about: it writes the problem that a rollout leaves, by the journal that stands in a file, and changes nothing of that.
use Rattle.std.specs.Prelude.{◌≡◌, ◌⊎◌, ℕ, ◌<◌, ◌^◌, List, Result, Ok, Err, IfOk, IsErrOf}
use Rattle.rollout_rules.specs.Wan.{Rollout}
use Rattle.wan_edge.specs.Streams.{Appends, AppendsPart, Rose, SinkTrace, SourceTrace}
use Rattle.file_sight.specs.Sights.{Looks}
use Rattle.file_sight.specs.declared.unseen.Unseen.{Unseen}
use Rattle.rollout_report.specs.Journals.{digest_for}
use Rattle.retarget_plan.specs.declared.unleft.Unleft.{Unleft as Cause}
use Rattle.retarget_service.specs.Written.{WritesBy}
use Rattle.retarget_service.specs.declared.unwritten.Unwritten.{Unwritten}
use Rattle.retarget_service.specs.JournalRoom.{journal_room}
use Rattle.swanroll_top.specs.LeftEnds.{left_of_unseen, left_of_unwritten}
use Rattle.retarget_service.specs.UnleftLines.{unleft_line}
use Rattle.swanroll_top.specs.Live.{LiveTold, NotesText, WasThere}
use Rattle.text_commands.specs.Reading.{ReadsInput}
use Rattle.text_commands.specs.Answers.{rollout_in}
use Rattle.text_commands.specs.Runs.{Gives, IsTold}
use Rattle.text_commands.specs.declared.command_end.CommandEnd.{CommandEnd}
use Rattle.text_commands.specs.declared.command_end.CommandEnd.TheVariants.{Done, OutOfMemory, ReadFault, WriteFault}
use Rattle.swanroll_top.specs.declared.live.LiveEnd.TheVariants as live
use Rattle.swanroll_top.specs.declared.left.LeftEnd.{LeftEnd}
use Rattle.swanroll_top.specs.declared.left.LeftEnd.TheVariants.{Ended, InUse, Unleft}

-- the text was written, or a part of it where the sink failed; without one nothing was
abbrev pub EndsLeft : Result (List ℕ) Unwritten → LeftEnd → SinkTrace → SinkTrace → Type 0
EndsLeft (Ok text) ending sink sink_now =
    ((ending ≡ Ended Done) × Appends sink.written text sink_now.written) ⊎ ((ending ≡ Ended WriteFault) × AppendsPart sink.written text sink_now.written × Rose sink.faults sink_now.faults)
EndsLeft (Err why) ending sink sink_now = (ending ≡ left_of_unwritten why) × (sink_now ≡ sink)

-- What a rollout leaves was written, as its journal is these bytes.
pub record SeesLeft (migration : ℕ) (o : Rollout) (image : List ℕ) (ending : LeftEnd) (sink sink_now : SinkTrace) : Type 0 where
  pub answer : Result (List ℕ) Unwritten
  pub writes : WritesBy o (digest_for o migration) image answer
  pub ends : EndsLeft answer ending sink sink_now

-- what was seen of the file decides, or that it wasn't seen
abbrev pub ByLook : ℕ → Rollout → Result (List ℕ) Unseen → LeftEnd → SinkTrace → SinkTrace → Type 0
ByLook migration o (Ok image) ending sink sink_now = SeesLeft migration o image ending sink sink_now
ByLook migration o (Err why) ending sink sink_now = (ending ≡ left_of_unseen why) × (sink_now ≡ sink)

-- The file was looked at, up to the room of the rollout's journal.
pub record LooksLeft {W : Type 0} (trace : W → SourceTrace) (migration : ℕ) (o : Rollout) (before now : W) (ending : LeftEnd) (sink sink_now : SinkTrace) : Type 0 where
  pub limit : ℕ
  pub room : journal_room o < 2 ^ 62 → limit ≡ journal_room o
  pub seen : Result (List ℕ) Unseen
  pub looks : Looks trace limit before seen now
  -- where a controller appended meanwhile, that was the journal once
  pub once : IfOk seen WasThere
  pub ends : ByLook migration o seen ending sink sink_now

-- the rollout of the input decides, or that it is refused; then the file wasn't looked at
abbrev pub ByRollout : {W : Type 0} → (W → SourceTrace) → ℕ → Result Rollout CommandEnd → W → W → LeftEnd → SinkTrace → SinkTrace → Type 0
ByRollout trace migration (Ok o) before now ending sink sink_now = LooksLeft trace migration o before now ending sink sink_now
ByRollout trace migration (Err e) before now ending sink sink_now = (ending ≡ Ended e) × (now ≡ before) × (sink_now ≡ sink)

pub record InputLeft {W : Type 0} (trace : W → SourceTrace) (migration : ℕ) (input : List ℕ) (before now : W) (ending : LeftEnd) (sink sink_now : SinkTrace) : Type 0 where
  pub rollout : Result Rollout CommandEnd
  pub gives : Gives rollout (rollout_in input)
  pub ends : ByRollout trace migration rollout before now ending sink sink_now

-- the input decides, or that it wasn't read
abbrev pub ByInput : {W : Type 0} → (W → SourceTrace) → ℕ → Result (List ℕ) CommandEnd → W → W → LeftEnd → SinkTrace → SinkTrace → Type 0
ByInput trace migration (Ok input) before now ending sink sink_now = InputLeft trace migration input before now ending sink sink_now
ByInput trace migration (Err e) before now ending sink sink_now = (ending ≡ Ended e) × (now ≡ before) × (sink_now ≡ sink)

pub record RunsLeft {W : Type 0} (trace : W → SourceTrace) (migration : ℕ) (source source_now : SourceTrace) (before now : W) (ending : LeftEnd) (sink sink_now : SinkTrace) : Type 0 where
  pub input : Result (List ℕ) CommandEnd
  pub reads : ReadsInput source input source_now
  pub cause : IsErrOf input ReadFault → Rose source.faults source_now.faults
  pub ends : ByInput trace migration input before now ending sink sink_now

-- the status and the line where no problem is left, or lack of memory for the line
abbrev pub UnleftTold : Cause → ℕ → SinkTrace → SinkTrace → Type 0
UnleftTold cause status before now =
    ((status ≡ 16) × NotesText (unleft_line cause) before now) ⊎ IsTold OutOfMemory status before.written now.written before.faults now.faults

abbrev pub LeftTold : LeftEnd → ℕ → SinkTrace → SinkTrace → Type 0
LeftTold (Ended ending) status before now = IsTold ending status before.written now.written before.faults now.faults
LeftTold InUse status before now = LiveTold live.InUse status before now
LeftTold (Unleft cause) status before now = UnleftTold cause status before now

-- What `left` promises, by the source, the file, the sink and the notes before and now.
pub record LeftPromise {W : Type 0} (trace : W → SourceTrace) (migration : ℕ) (source source_now : SourceTrace) (file file_now : W) (sink sink_now notes notes_now : SinkTrace) (status : ℕ) : Type 0 where
  pub ending : LeftEnd
  pub does : RunsLeft trace migration source source_now file file_now ending sink sink_now
  pub told : LeftTold ending status notes notes_now
