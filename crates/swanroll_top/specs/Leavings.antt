-- What the command `report` leaves on its disk. A disk is given by what it tells of its bytes, what a crash now leaves of it, its moment,
-- and what a crash since a moment may have left.
use Rattle.std.specs.Prelude.{◌≡◌, ◌⊎◌, ℕ, List, Option, Result, IfOk, IfSome}
use Rattle.rollout_rules.specs.Wan.{Rollout}
use Rattle.disk_model.specs.Traces.{DiskTrace}
use Rattle.disk_model.specs.Crashes.{Within}
use Rattle.disk_model.specs.Moments.{LeavesOnly}
use Rattle.wan_edge.specs.Streams.{SourceTrace}
use Rattle.intent_journal.specs.declared.digest.Digest.{Digest}
use Rattle.intent_journal.specs.Recovered.{KeepsNow, MayStand, kept_for}
use Rattle.intent_journal.specs.Verdicts.{verdict}
use Rattle.rollout_report.specs.Journals.{digest_for}
use Rattle.text_commands.specs.Answers.{rollout_to}
use Rattle.text_commands.specs.Runs.{TellsInput}
use Rattle.text_commands.specs.declared.command_end.CommandEnd.{CommandEnd}

-- What a run of this status leaves on a disk that told this image, of a journal that knows its rollout by this digest.
pub record LeavesJournal {D : Type 0} (trace : D → DiskTrace)
    (o : Rollout) (digest : Digest) (image : List ℕ) (status : ℕ) (old new : D) : Type 0 where
  -- whenever a crash comes, it leaves what it might have left at entry, or the journal of the same list
  pub any_moment : LeavesOnly trace old new (MayStand o digest image (verdict o digest image) (trace old).may_leave)
  -- after a report each image keeps the list that was found
  pub reported : (status ≡ 0) ⊎ (status ≡ 7) → KeepsNow (kept_for o digest (verdict o digest image)) (trace new).bytes (trace new).may_leave
  -- a journal that is refused is left as it was
  pub refused : status ≡ 10 → ((trace new).bytes ≡ (trace old).bytes) × Within (trace new).may_leave (trace old).may_leave

-- the same of the rollout of an input, where there is one and the disk told its bytes
abbrev pub LeavesReported : {D : Type 0} → (D → DiskTrace) → ℕ → Result Rollout CommandEnd → ℕ → D → D → Type 0
LeavesReported trace migration rollout status old new =
    IfOk rollout (λ o. IfSome (trace old).bytes (λ image. LeavesJournal trace o (digest_for o migration) image status old new))

-- the same of the input that the source tells, where it does
abbrev pub LeavesRead : {D : Type 0} → (D → DiskTrace) → ℕ → SourceTrace → SourceTrace → ℕ → D → D → Type 0
LeavesRead trace migration source source_now status old new =
    (input : List ℕ) → TellsInput source source_now input → LeavesReported trace migration (rollout_to input) status old new
