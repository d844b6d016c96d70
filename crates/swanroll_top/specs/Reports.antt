-- What the command `report` reads and writes.
use Rattle.std.specs.Prelude.{◌≡◌, ⊤, ◌↔◌, ℕ, List, Option, Some, Result, Ok, Err, IfSome}
use Rattle.rollout_rules.specs.Wan.{Rollout}
use Rattle.wan_edge.specs.Streams.{SourceTrace}
use Rattle.intent_journal.specs.declared.fault.JournalFault.{JournalFault}
use Rattle.rollout_report.specs.Journals.{journal_report}
use Rattle.text_commands.specs.Answers.{rollout_to}
use Rattle.text_commands.specs.CommandEnds.{ending_of_journal, status_of}
use Rattle.text_commands.specs.Runs.{EndsWith, IsInput, IsReadToEnd}
use Rattle.text_commands.specs.Taken.{IsValidDocument}
use Rattle.text_commands.specs.declared.command_end.CommandEnd.{CommandEnd}
use Rattle.text_commands.specs.declared.command_end.CommandEnd.TheVariants.{DiskFault, OutOfMemory, ReadFault, Refused}

abbrev pub or_journal : Result (List ℕ) JournalFault → Result (List ℕ) CommandEnd
or_journal (Ok text) = Ok text
or_journal (Err e) = Err (ending_of_journal e)

-- an answer that comes from the journal: a text, or that the journal is refused
abbrev pub IsLate : Result (List ℕ) CommandEnd → Type 0
IsLate (Ok text) = ⊤
IsLate (Err (Refused e)) = ⊤
IsLate (Err e) = ⊥

-- The run ends as the journal's answer says: that is the report of the bytes that the disk told when it was opened.
pub record Reports (migration : ℕ) (o : Rollout) (told : Option (List ℕ)) (ending : CommandEnd) (out out_now : Option (List ℕ)) : Type 0 where
  pub image : List ℕ
  pub stored : told ≡ Some image
  pub answer : Result (List ℕ) CommandEnd
  pub late : IsLate answer
  pub is : or_journal (journal_report o migration image) ≡ answer
  pub ends : EndsWith answer ending out out_now

-- the text of a report was written, or a part of it, or the run ends as its cause says
abbrev pub EndsJournal : Result (List ℕ) JournalFault → CommandEnd → Option (List ℕ) → Option (List ℕ) → Type 0
EndsJournal (Ok text) ending out out_now = EndsWith (Ok text) ending out out_now
EndsJournal (Err cause) ending out out_now = (ending ≡ ending_of_journal cause) × (out_now ≡ out)

-- the input is refused, or the journal decides
abbrev pub EndsReport : ℕ → Result Rollout CommandEnd → Option (List ℕ) → CommandEnd → Option (List ℕ) → Option (List ℕ) → Type 0
EndsReport migration (Err e) told ending out out_now = (ending ≡ e) × (out_now ≡ out)
EndsReport migration (Ok o) told ending out out_now = Reports migration o told ending out out_now

-- An input that is a document with a valid plan was read, and with it the source to its end.
pub record ReadsDocument (source source_now : SourceTrace) : Type 0 where
  pub input : List ℕ
  pub whole : IfSome source.left (λ left. left ≡ input)
  pub read : IsReadToEnd source source_now input
  pub valid : IsValidDocument input

-- the input is this rollout, whichever it is
abbrev pub IsRollout : Result Rollout CommandEnd → Type 0
IsRollout rollout = (o : Rollout) × (rollout ≡ Ok o)

-- The same, where the disk may have failed or memory have run out: then nothing was written. A disk fails only after an input that isn't refused.
abbrev pub FollowsReported : ℕ → Result Rollout CommandEnd → Option (List ℕ) → CommandEnd → Option (List ℕ) → Option (List ℕ) → Type 0
FollowsReported migration rollout told OutOfMemory out out_now = out_now ≡ out
FollowsReported migration rollout told DiskFault out out_now = IsRollout rollout × (out_now ≡ out)
FollowsReported migration rollout told ending out out_now = EndsReport migration rollout told ending out out_now

-- The input of a report, and how the run follows from it. It is refused exactly where it is no document with a valid plan.
pub record FollowsReport (migration : ℕ) (source source_now : SourceTrace) (told : Option (List ℕ)) (ending : CommandEnd) (out out_now : Option (List ℕ)) : Type 0 where
  pub input : List ℕ
  pub read : IsInput source source_now input
  pub ends : EndsReport migration (rollout_to input) told ending out out_now
  pub refused : (status_of ending ≡ 3) ↔ (IsValidDocument input → ⊥)
  pub silent : (status_of ending ≡ 0 → ⊥) → (status_of ending ≡ 7 → ⊥) → out_now ≡ out

-- What an ending of a report says: after a fault of the source or of the disk, and for lack of memory, that nothing was written; and of the disk, that it
-- failed after an input that isn't refused.
abbrev pub RunsReport : ℕ → SourceTrace → SourceTrace → Option (List ℕ) → CommandEnd → Option (List ℕ) → Option (List ℕ) → Type 0
RunsReport migration source source_now told ReadFault out out_now = out_now ≡ out
RunsReport migration source source_now told DiskFault out out_now = ReadsDocument source source_now × (out_now ≡ out)
RunsReport migration source source_now told OutOfMemory out out_now = out_now ≡ out
RunsReport migration source source_now told ending out out_now = FollowsReport migration source source_now told ending out out_now
