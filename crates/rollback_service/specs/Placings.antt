-- What placing a journal of the way back leaves on a disk.
use Rattle.std.specs.Prelude.{◌≡◌, ◌⊎◌, ◌+◌, ◌≤◌, ℕ, List, [], IfSome}
use Rattle.rollout_rules.specs.Wan.{Rollout}
use Rattle.disk_model.specs.Traces.{DiskTrace}
use Rattle.disk_model.specs.Crashes.{Within}
use Rattle.disk_model.specs.Moments.{LeavesOnly}
use Rattle.wan_edge.specs.Streams.{KeepsTelling}
use Rattle.intent_journal.specs.declared.fault.JournalFault.{JournalFault}
use Rattle.intent_journal.specs.Parts.{Kept}
use Rattle.intent_journal.specs.Phases.{kept_of}
use Rattle.intent_journal.specs.Placements.{IsPlaced, IsPlacingFault, IsStoodOrPlaced}
use Rattle.intent_journal.specs.Recovered.{OnRefusal}
use Rattle.rollout_report.specs.Journals.{digest_for}
use Rattle.rollback_plan.specs.Turning.{back}

-- What the journal of the way back from a start keeps: it knows the rollout back, as the next migration; it begins there; and its list is empty.
abbrev pub kept_from : Rollout → ℕ → List ℕ → Kept
kept_from r migration start = kept_of (digest_for (back r) (migration + 1)) start []

-- A disk shows one of the images that a crash now may leave, and this moment is one of those since an earlier one.
pub record IsSeen {D : Type 0} (trace : D → DiskTrace) (disk : D) : Type 0 where
  pub shows : IfSome (trace disk).bytes (trace disk).may_leave
  pub counts : (t : ℕ) (c : List ℕ) → t ≤ (trace disk).moment → (trace disk).may_leave c → (trace disk).left_since t c

-- Placing a journal that keeps this was tried. A crash meanwhile leaves what it might have left at entry, or an image that placing this leaves.
pub record MayPlace {D : Type 0} (trace : D → DiskTrace) (kept : Kept) (old new : D) : Type 0 where
  pub any_moment : IfSome (trace old).bytes (λ image. LeavesOnly trace old new (λ c. (trace old).may_leave c ⊎ IsStoodOrPlaced kept image c))
  -- a disk that told its bytes tells them still
  pub told : KeepsTelling (trace old).bytes (trace new).bytes
  -- no failure was taken back
  pub count : (trace old).faults ≤ (trace new).faults

-- It was placed: the image is this journal, and a crash leaves no other.
abbrev pub HasPlaced : {D : Type 0} → (D → DiskTrace) → Kept → D → Type 0
HasPlaced trace kept disk = IsPlaced kept (trace disk).bytes (trace disk).may_leave

-- It wasn't, for this cause; an image that is refused was not written on.
pub record IsNotPlaced {D : Type 0} (trace : D → DiskTrace) (cause : JournalFault) (old new : D) : Type 0 where
  pub why : IsPlacingFault cause (trace old).bytes (trace old).faults (trace new).faults
  pub unwritten : OnRefusal cause (((trace new).bytes ≡ (trace old).bytes) × Within (trace new).may_leave (trace old).may_leave)
