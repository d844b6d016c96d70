-- What `retarget` promises, by the bytes read, those on the disk, and those written.
use Rattle.std.specs.Prelude.{◌≡◌, ◌⊎◌, ℕ, List, Result, Ok, Err, IsErrOf}
use Rattle.disk_model.specs.Traces.{DiskTrace}
use Rattle.wan_edge.specs.Streams.{Rose, SinkTrace, SourceTrace}
use Rattle.text_commands.specs.Reading.{ReadsInput}
use Rattle.text_commands.specs.Runs.{IsTold}
use Rattle.text_commands.specs.declared.command_end.CommandEnd.{CommandEnd}
use Rattle.text_commands.specs.declared.command_end.CommandEnd.TheVariants.{OutOfMemory, ReadFault}
use Rattle.text_commands.specs.declared.words.Planner.{Planner}
use Rattle.retarget_top.specs.Aims.{WantsBy}
use Rattle.retarget_service.specs.UnleftLines.{unleft_line}
use Rattle.retarget_top.specs.Lines.{NotesText, no_link_line, target_line}
use Rattle.retarget_top.specs.Retargets.{LeavesBoth, OpensAndRetargets}
use Rattle.retarget_top.specs.declared.ending.RetargetEnding.{RetargetEnding}
use Rattle.retarget_top.specs.declared.ending.RetargetEnding.TheVariants.{Ended, NoLink, Target, Unleft}
use Rattle.retarget_top.specs.declared.ending.Wanted.{Wanted}

-- the rollout and its aim decide, or that there is none; then neither disk nor sink was touched
abbrev pub ByWanted : {D : Type 0} → (D → DiskTrace) → ℕ → Planner → Result Wanted RetargetEnding → D → D → RetargetEnding → SinkTrace → SinkTrace → Type 0
ByWanted trace migration planner (Ok w) disk disk_now ending sink sink_now = OpensAndRetargets trace planner migration w disk disk_now ending sink sink_now
ByWanted trace migration planner (Err e) disk disk_now ending sink sink_now = (ending ≡ e) × LeavesBoth disk disk_now sink sink_now

pub record InputRetargets {D : Type 0} (trace : D → DiskTrace) (migration : ℕ) (planner : Planner) (shed input : List ℕ) (disk disk_now : D) (ending : RetargetEnding) (sink sink_now : SinkTrace) : Type 0 where
  pub wanted : Result Wanted RetargetEnding
  pub wants : WantsBy shed input wanted
  pub ends : ByWanted trace migration planner wanted disk disk_now ending sink sink_now

-- the input decides, or that it wasn't read
abbrev pub ByInput : {D : Type 0} → (D → DiskTrace) → ℕ → Planner → List ℕ → Result (List ℕ) CommandEnd → D → D → RetargetEnding → SinkTrace → SinkTrace → Type 0
ByInput trace migration planner shed (Ok input) disk disk_now ending sink sink_now = InputRetargets trace migration planner shed input disk disk_now ending sink sink_now
ByInput trace migration planner shed (Err e) disk disk_now ending sink sink_now = (ending ≡ Ended e) × LeavesBoth disk disk_now sink sink_now

pub record RunsRetarget {D : Type 0} (trace : D → DiskTrace) (migration : ℕ) (planner : Planner) (shed : List ℕ) (source source_now : SourceTrace) (disk disk_now : D) (ending : RetargetEnding) (sink sink_now : SinkTrace) : Type 0 where
  pub input : Result (List ℕ) CommandEnd
  pub reads : ReadsInput source input source_now
  pub cause : IsErrOf input ReadFault → Rose source.faults source_now.faults
  pub ends : ByInput trace migration planner shed input disk disk_now ending sink sink_now

-- a status and its line, or lack of memory for the line
abbrev pub LineTold : ℕ → List ℕ → ℕ → SinkTrace → SinkTrace → Type 0
LineTold number line status before now = ((status ≡ number) × NotesText line before now) ⊎ IsTold OutOfMemory status before.written now.written before.faults now.faults

abbrev pub RetargetTold : List ℕ → RetargetEnding → ℕ → SinkTrace → SinkTrace → Type 0
RetargetTold shed (Ended ending) status before now = IsTold ending status before.written now.written before.faults now.faults
RetargetTold shed (Target fault) status before now = LineTold 3 (target_line fault) status before now
RetargetTold shed NoLink status before now = LineTold 3 (no_link_line shed) status before now
RetargetTold shed (Unleft cause) status before now = LineTold 16 (unleft_line cause) status before now

-- Of a document and its aim, by the source, the disk, the sink and the notes before and now.
pub record RetargetPromise {D : Type 0} (trace : D → DiskTrace) (migration : ℕ) (planner : Planner) (shed : List ℕ) (source source_now : SourceTrace) (disk disk_now : D) (sink sink_now notes notes_now : SinkTrace) (status : ℕ) : Type 0 where
  pub ending : RetargetEnding
  pub does : RunsRetarget trace migration planner shed source source_now disk disk_now ending sink sink_now
  pub told : RetargetTold shed ending status notes notes_now
