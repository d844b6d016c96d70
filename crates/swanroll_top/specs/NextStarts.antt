-- What a run leaves to the next start of its rollout.
use Rattle.std.specs.Prelude.{◌≡◌, ◌⊎◌, ℕ, true, List, ◌++◌, Some, Ok, IfSome}
use Rattle.rollout_rules.specs.Wan.{Rollout}
use Rattle.rollout_rules.specs.History.{History, with_entries}
use Rattle.rollout_rules.specs.Legal.{is_legal}
use Rattle.rollout_rules.specs.declared.op.Entry.{Entry}
use Rattle.disk_model.specs.Traces.{DiskTrace}
use Rattle.disk_model.specs.Moments.{LeavesOnly}
use Rattle.disk_mirror.specs.Openings.{Opens}
use Rattle.intent_journal.specs.declared.digest.Digest.{Digest}
use Rattle.intent_journal.specs.Entries.{entry_rows}
use Rattle.intent_journal.specs.Images.{journal_in}
use Rattle.intent_journal.specs.Openings.{found_by}
use Rattle.intent_journal.specs.Parts.{Kept}
use Rattle.intent_journal.specs.Recovered.{MayStand}
use Rattle.intent_journal.specs.Verdicts.{verdict}
use Rattle.rollout_report.specs.Journals.{digest_for}
use Rattle.controller_run.specs.declared.running.Limits.{Limits}
use Rattle.text_commands.specs.Answers.{rollout_to}

-- The image is one that the next opening of this rollout takes: its journal was made for the same digest and migration, has the start of the history that was
-- found in the first image, and its list, which is legal, begins with the list found.
pub record IsTakenAgain (r : Rollout) (digest : Digest) (first image : List ℕ) : Type 0 where
  pub found : History
  pub begins : found_by r (verdict r digest first) ≡ Some found
  pub past : List Entry
  pub legal : is_legal r.problem r.plan (with_entries found past) ≡ true
  pub kept : Kept
  pub is : journal_in image ≡ Some kept
  pub digest_is : kept.digest ≡ digest.bytes
  pub migration_is : kept.migration ≡ digest.migration
  pub starts : kept.starts ≡ found.start
  pub rows : kept.rows ≡ entry_rows (found.entries ++ past)

-- a crash might have left it at first, or leaves it while a journal is opened; or it is taken
abbrev pub MayBeFound : Rollout → Digest → List ℕ → (List ℕ → Type 0) → List ℕ → Type 0
MayBeFound r digest first left image = MayStand r digest first (verdict r digest first) left image ⊎ IsTakenAgain r digest first image

-- Over a disk that tells its bytes a crash at any moment from one to another leaves no other image.
abbrev pub StartsAgain : {D : Type 0} → (D → DiskTrace) → Rollout → Digest → D → D → Type 0
StartsAgain trace r digest disk now =
    IfSome (trace disk).bytes (λ first. IfSome (trace now).bytes (λ _. LeavesOnly trace disk now (MayBeFound r digest first (trace disk).may_leave)))

-- The input, of which this test holds, is a rollout; its disk was opened, and so it is from there on.
pub record LeavesToNext {D : Type 0} (trace : D → DiskTrace) (limits : Limits) (Given : List ℕ → Type 0) (disk disk_now : D) : Type 0 where
  pub input : List ℕ
  pub given : Given input
  pub r : Rollout
  pub is : rollout_to input ≡ Ok r
  pub opened : D
  pub opens : Opens (trace disk) (trace opened)
  pub again : StartsAgain trace r (digest_for r limits.migration) opened disk_now

-- The disk is as it was, or it couldn't be opened; or it is left so.
abbrev pub NextStart : {D : Type 0} → (D → DiskTrace) → Limits → (List ℕ → Type 0) → D → D → Type 0
NextStart trace limits Given disk disk_now = (disk_now ≡ disk) ⊎ (Opens (trace disk) (trace disk_now) ⊎ LeavesToNext trace limits Given disk disk_now)
