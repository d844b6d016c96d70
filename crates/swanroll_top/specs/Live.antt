-- What `report --live` brings about: it reports the journal that stands in a file, which a controller may write meanwhile, and changes nothing of it.
use Rattle.std.specs.Prelude.{◌≡◌, ◌⊎◌, ℕ, ◌<◌, ◌^◌, List, codes, Option, Result, Ok, IfSome}
use Rattle.rollout_rules.specs.Wan.{Rollout}
use Rattle.wan_edge.specs.Streams.{Appends, AppendsPart, Rose, SinkTrace, SourceTrace}
use Rattle.intent_journal.specs.States.{Home}
use Rattle.file_sight.specs.Sights.{HasMoved, IsSeen, IsUnread, IsUnreadAgain}
use Rattle.file_sight.specs.declared.unseen.Unseen.{Unseen}
use Rattle.file_sight.specs.declared.unseen.Unseen.TheVariants as unseen
use Rattle.rollout_report.specs.Journals.{journal_report}
use Rattle.rollout_report.specs.Kept.{AreOneJournal}
use Rattle.rollout_report.specs.Watching.{AreMoments, AreReadFrom, HeldOnce, Moment}
use Rattle.retarget_service.specs.JournalRoom.{journal_room}
use Rattle.text_commands.specs.Answers.{rollout_to}
use Rattle.swanroll_top.specs.Reports.{FollowsReported, RunsReport}
use Rattle.text_commands.specs.Runs.{IsInput, IsTold}
use Rattle.text_commands.specs.declared.command_end.CommandEnd.{CommandEnd}
use Rattle.text_commands.specs.declared.command_end.CommandEnd.TheVariants.{DiskFault, OutOfMemory, ReadFault, WriteFault}
use Rattle.swanroll_top.specs.declared.live.LiveEnd.{LiveEnd}
use Rattle.swanroll_top.specs.declared.live.LiveEnd.TheVariants.{Ended, InUse}

-- the ending of a report that comes to the same: where the file is in use the journal's device fails
abbrev pub plain : LiveEnd → CommandEnd
plain (Ended ending) = ending
plain InUse = DiskFault

abbrev pub ending_of_unseen : Unseen → LiveEnd
ending_of_unseen unseen.Failed = Ended DiskFault
ending_of_unseen unseen.InUse = InUse
ending_of_unseen unseen.Memory = Ended OutOfMemory

-- how a report over a disk in memory ends, which fails for lack of memory alone
abbrev pub in_memory : CommandEnd → CommandEnd
in_memory DiskFault = OutOfMemory
in_memory other = other

-- The file couldn't be read, or has more bytes than the room of the journal of some rollout.
pub record FailsToSee {W : Type 0} (trace : W → SourceTrace) (before now : W) : Type 0 where
  pub rollout : Rollout
  pub limit : ℕ
  pub is : journal_room rollout < 2 ^ 62 → limit ≡ journal_room rollout
  pub unread : IsUnread trace limit before now ⊎ IsUnreadAgain trace limit before now

-- What was read of the file, where it was read.
pub record Sees {W : Type 0} (trace : W → SourceTrace) (before now : W) (image : List ℕ) : Type 0 where
  pub limit : ℕ
  pub is : IsSeen trace limit before now image

-- A report of this rollout, or of an input that is refused, that ended so: by what was read of the file.
pub record ReportsSeen {W : Type 0} (trace : W → SourceTrace) (migration : ℕ) (rollout : Result Rollout CommandEnd) (before now : W) (ending : LiveEnd) (out out_now : Option (List ℕ)) : Type 0 where
  pub seen : Option (List ℕ)
  pub sees : IfSome seen (Sees trace before now)
  pub follows : FollowsReported migration rollout seen (plain ending) out out_now
  pub failed : ending ≡ Ended DiskFault → FailsToSee trace before now
  pub moved : ending ≡ InUse → (limit : ℕ) × HasMoved trace limit before now

-- the same by what the source told and tells
pub record ReportsLive {W : Type 0} (trace : W → SourceTrace) (migration : ℕ) (source source_now : SourceTrace) (before now : W) (ending : LiveEnd) (out out_now : Option (List ℕ)) : Type 0 where
  pub seen : Option (List ℕ)
  pub sees : IfSome seen (Sees trace before now)
  pub runs : RunsReport migration source source_now seen (plain ending) out out_now
  pub failed : ending ≡ Ended DiskFault → FailsToSee trace before now
  pub moved : ending ≡ InUse → (limit : ℕ) × HasMoved trace limit before now

-- the notes have this text, or a part of it where they failed
abbrev pub NotesText : List ℕ → SinkTrace → SinkTrace → Type 0
NotesText text before now = Appends before.written text now.written ⊎ (AppendsPart before.written text now.written × Rose before.faults now.faults)

-- the status and the line of an ending
abbrev pub LiveTold : LiveEnd → ℕ → SinkTrace → SinkTrace → Type 0
LiveTold (Ended ending) status before now = IsTold ending status before.written now.written before.faults now.faults
LiveTold InUse status before now = (status ≡ 8) × NotesText (codes "journal: in use, try again\n") before now

-- Where a controller appended meanwhile, and each byte was read at its moment, what was read is the journal as it stood at one of these moments.
abbrev pub WasThere : List ℕ → Type 0
WasThere image = (home : Home) (moments : List Moment) → AreMoments home moments → AreReadFrom 0 moments image → HeldOnce (AreOneJournal image) moments

-- What `report --live` promises, by the source, the file, the sink and the notes before and now.
pub record LivePromise {W : Type 0} (trace : W → SourceTrace) (migration : ℕ) (source source_now : SourceTrace) (file file_now : W) (sink sink_now notes notes_now : SinkTrace) (status : ℕ) : Type 0 where
  pub ending : LiveEnd
  -- the text is the report of what was read of the file, as of a disk that tells these bytes
  pub does : ReportsLive trace migration source source_now file file_now ending sink.written sink_now.written
  -- and that was the journal once
  pub once : IfSome does.seen WasThere
  -- the status and the line of the notes are those of the ending
  pub told : LiveTold ending status notes notes_now
  -- a fault comes only where its object counted one
  pub read_fault : ending ≡ Ended ReadFault → Rose source.faults source_now.faults
  pub write_fault : ending ≡ Ended WriteFault → Rose sink.faults sink_now.faults

-- The text was written that is the report, for the rollout of the input, of what stood in the file at one of these moments.
pub record WroteOnce (migration : ℕ) (source source_now : SourceTrace) (moments : List Moment) (out out_now : Option (List ℕ)) : Type 0 where
  pub input : List ℕ
  pub read : IsInput source source_now input
  pub o : Rollout
  pub is : rollout_to input ≡ Ok o
  pub text : List ℕ
  pub once : HeldOnce (λ image. journal_report o migration image ≡ Ok text) moments
  pub written : Appends out text out_now
