-- The promise of `report`, which tells how far the rollout of its input has come by the journal on the disk.
use Rattle.std.specs.Prelude.{◌≡◌, ◌≢◌, ℕ, List, Option, Result}
use Rattle.rollout_rules.specs.Wan.{Rollout}
use Rattle.disk_model.specs.Traces.{DiskTrace}
use Rattle.disk_mirror.specs.Openings.{Opens}
use Rattle.wan_edge.specs.Streams.{SourceTrace}
use Rattle.text_commands.specs.CommandEnds.{status_of}
use Rattle.swanroll_top.specs.Leavings.{LeavesRead, LeavesReported}
use Rattle.text_commands.specs.Program.{NotesLine, Streams}
use Rattle.swanroll_top.specs.Reports.{FollowsReport, FollowsReported, ReadsDocument, RunsReport}
use Rattle.swanroll_top.specs.Views.{Objects, Outside, Views, over, source_at, streams, used, written_at}
use Rattle.text_commands.specs.declared.command_end.CommandEnd.{CommandEnd}

-- what stays of the journal, whenever a crash comes, where a report ends with this status
abbrev pub LeavesList : {S K D F P G : Type 0} → Views S K D F P G → ℕ → Objects S K D F → ℕ → Objects S K D F → Type 0
LeavesList views migration before status after =
    LeavesRead views.disk migration (source_at views before) (source_at views after) status before.disk after.disk

-- A report of the rollout of an input, or of an input that is refused, that ended so. It follows from the disk as it stood once it was opened; where no
-- journal was asked for, or the disk couldn't be opened, nothing follows from the disk. An input that is refused leaves it as it was.
pub record ReportsIn {D : Type 0} (trace : D → DiskTrace) (migration : ℕ) (rollout : Result Rollout CommandEnd) (disk disk_now : D) (ending : CommandEnd) (out out_now : Option (List ℕ)) : Type 0 where
  pub opened : D
  pub opens : Opens (trace disk) (trace opened)
  pub follows : FollowsReported migration rollout (trace opened).bytes ending out out_now
  pub leaves : LeavesReported trace migration rollout (status_of ending) opened disk_now
  pub untouched : status_of ending ≡ 3 → disk_now ≡ disk

-- the same by what the source told and tells
pub record ReportsOn {D : Type 0} (trace : D → DiskTrace) (migration : ℕ) (source source_now : SourceTrace) (disk disk_now : D) (ending : CommandEnd) (out out_now : Option (List ℕ)) : Type 0 where
  pub opened : D
  pub opens : Opens (trace disk) (trace opened)
  pub runs : RunsReport migration source source_now (trace opened).bytes ending out out_now
  pub leaves : LeavesRead trace migration source source_now (status_of ending) opened disk_now
  pub untouched : status_of ending ≡ 3 → disk_now ≡ disk

-- what a report has brought about that ended so
abbrev pub BringsReport : {S K D F P G : Type 0} → Views S K D F P G → ℕ → Objects S K D F → CommandEnd → Objects S K D F → Type 0
BringsReport views migration before ending after =
    ReportsOn views.disk migration (source_at views before) (source_at views after) before.disk after.disk ending (written_at views before) (written_at views after)

-- The whole of a report that read its input and its journal: the status, what was written and the line of the notes follow from these.
pub record ReportsAndNotes (migration : ℕ) (before after : Streams) (status : ℕ) : Type 0 where
  pub ending : CommandEnd
  pub is_status : status ≡ status_of ending
  pub follows : FollowsReport migration before.source after.source before.stored ending before.sink.written after.sink.written
  pub line : NotesLine ending before after

-- so it is unless the source or the disk failed or memory ran out
abbrev pub ReportsBy : ℕ → Streams → Streams → ℕ → Type 0
ReportsBy migration before after status = status ≢ 6 → status ≢ 8 → status ≢ 12 → ReportsAndNotes migration before after status

pub record ReportPromise {S K D F P G : Type 0} (views : Views S K D F P G) (migration : ℕ) (before : Outside S K D F) (status : ℕ) (after : Outside S K D F) : Type 0 where
  -- the disk once it was opened
  pub opened : D
  pub opens : Opens (views.disk before.disk) (views.disk opened)
  -- all follows from the bytes read and those on the disk that was opened
  pub does : ReportsBy migration (streams views (over opened before)) (streams views after) status
  -- the journal keeps its list, whenever a crash comes
  pub leaves : LeavesList views migration (used (over opened before)) status (used after)
  -- an input that is refused leaves the disk as it was
  pub untouched : status ≡ 3 → after.disk ≡ before.disk
  -- a disk fails only after an input that was read to its end and isn't refused
  pub failed : status ≡ 8 → ReadsDocument (views.source before.source) (views.source after.source)
