-- What a rollback leaves to the next start: of its rollout, or of its way back.
use Rattle.std.specs.Prelude.{◌≡◌, ◌⊎◌, ℕ, List, Some, Ok, IfSome}
use Rattle.rollout_rules.specs.Wan.{Rollout}
use Rattle.rollout_rules.specs.History.{History}
use Rattle.disk_model.specs.Traces.{DiskTrace}
use Rattle.disk_model.specs.Moments.{LeavesOnly}
use Rattle.disk_mirror.specs.Openings.{Opens}
use Rattle.intent_journal.specs.Images.{journal_in}
use Rattle.intent_journal.specs.Openings.{found_by}
use Rattle.intent_journal.specs.Verdicts.{verdict}
use Rattle.rollout_report.specs.Journals.{digest_for}
use Rattle.controller_run.specs.declared.running.Limits.{Limits}
use Rattle.rollback_plan.specs.Turns.{BeginsBack}
use Rattle.rollback_service.specs.Levellings.{TurnsFrom, start_of}
use Rattle.rollback_service.specs.Placings.{kept_from}
use Rattle.rollback_service.specs.declared.origin.BackFrom.{BackFrom}
use Rattle.swanroll_top.specs.NextStarts.{MayBeFound}
use Rattle.text_commands.specs.Answers.{rollout_to}

-- The image is one that the next opening of the way back takes, as the next migration: it is the journal of the way back from where the history is levelled that was
-- found in the first image, and begins soundly, with the contents that items have there.
pub record IsTakenAsWayBack (origin : BackFrom) (r : Rollout) (migration : ℕ) (first image : List ℕ) : Type 0 where
  pub found : History
  pub begins : found_by r (verdict r (digest_for r migration) first) ≡ Some found
  pub stage : ℕ
  pub turns : TurnsFrom origin r found stage
  pub is : journal_in image ≡ Some (kept_from r migration (start_of r found stage))
  pub starts : BeginsBack r.problem r.plan found stage

-- the next opening of this rollout may find it, or that of its way back takes it
abbrev pub MayBeFoundEither : BackFrom → Rollout → ℕ → List ℕ → (List ℕ → Type 0) → List ℕ → Type 0
MayBeFoundEither origin r migration first left image = MayBeFound r (digest_for r migration) first left image ⊎ IsTakenAsWayBack origin r migration first image

-- Over a disk that tells its bytes a crash at any moment from one to another leaves no other image.
abbrev pub StartsEither : {D : Type 0} → (D → DiskTrace) → BackFrom → Rollout → ℕ → D → D → Type 0
StartsEither trace origin r migration disk now =
    IfSome (trace disk).bytes (λ first. IfSome (trace now).bytes (λ _. LeavesOnly trace disk now (MayBeFoundEither origin r migration first (trace disk).may_leave)))

-- The input, of which this test holds, is a rollout; its disk was opened, and so it is from there on.
pub record LeavesToEither {D : Type 0} (trace : D → DiskTrace) (origin : BackFrom) (limits : Limits) (Given : List ℕ → Type 0) (disk disk_now : D) : Type 0 where
  pub input : List ℕ
  pub given : Given input
  pub r : Rollout
  pub is : rollout_to input ≡ Ok r
  pub opened : D
  pub opens : Opens (trace disk) (trace opened)
  pub again : StartsEither trace origin r limits.migration opened disk_now

-- The disk is as it was, or it couldn't be opened; or it is left so.
abbrev pub NextStartEither : {D : Type 0} → (D → DiskTrace) → BackFrom → Limits → (List ℕ → Type 0) → D → D → Type 0
NextStartEither trace origin limits Given disk disk_now = (disk_now ≡ disk) ⊎ (Opens (trace disk) (trace disk_now) ⊎ LeavesToEither trace origin limits Given disk disk_now)
