-- A round leaves a journal of the same digest and migration.
use Rattle.std.proofs.Common.{◌≡◌, ◌⊎◌, inl, inr, ℕ, List, [], Option, Some, None, IfSome, refl, subst, sym}
use Rattle.disk_model.specs.Traces.{DiskTrace}
use Rattle.disk_model.specs.Crashes.{Only}
use Rattle.disk_model.specs.Moments.{LeavesOnly}
use Rattle.disk_model.proofs.Running.{LeavesOnly-durable, LeavesOnly-weaker}
use Rattle.rollout_rules.specs.declared.op.Entry.{Entry}
use Rattle.intent_journal.specs.Images.{journal_in}
use Rattle.intent_journal.specs.Parts.{Kept}
use Rattle.intent_journal.specs.States.{IsBeforeOrAfter, added, with_more}
use Rattle.rollout_book.specs.Lists.{HasOwner, IsKeptList, KeepsOwner}

-- what keeps the same, or that with a batch, has the same owner
owner-either : (before : Option Kept) (rows : List (List ℕ)) (c : List ℕ) → (journal_in c ≡ before) ⊎ (journal_in c ≡ added before rows) → IfSome before (λ kept. HasOwner kept c)
owner-either None rows c either = tt
owner-either (Some kept) rows c (inl same) = record { now = kept; is = same; digest = refl; migration = refl }
owner-either (Some kept) rows c (inr more) = record { now = with_more kept rows; is = more; digest = refl; migration = refl }

-- so an image does by itself
pub owner-self : (image : List ℕ) → KeepsOwner image image
owner-self image = owner-either (journal_in image) [] image (inl refl)

module _ {D : Type 0} (trace : D → DiskTrace) (told : Option (List ℕ)) (old new : D) where
  -- a batch was written, wholly or in part
  pub owner-appended : (rows : List (List ℕ)) → IfSome told (λ image. LeavesOnly trace old new (IsBeforeOrAfter (journal_in image) rows))
      → IfSome told (λ image. LeavesOnly trace old new (KeepsOwner image))
  owner-appended rows run = on_told told run
    where
      on_told : (t : Option (List ℕ)) → IfSome t (λ image. LeavesOnly trace old new (IsBeforeOrAfter (journal_in image) rows)) → IfSome t (λ image. LeavesOnly trace old new (KeepsOwner image))
      on_told None run = tt
      on_told (Some image) run =
          LeavesOnly-weaker trace old new (IsBeforeOrAfter (journal_in image) rows) (KeepsOwner image) run (λ c either. owner-either (journal_in image) rows c either)

  -- nothing was written
  pub owner-still : (start : List ℕ) (entries : List Entry) → ((c : List ℕ) → (trace old).left_since (trace old).moment c → (trace old).may_leave c) → new ≡ old
      → IfSome told (IsKeptList start entries (trace old).may_leave) → IfSome told (λ image. LeavesOnly trace old new (KeepsOwner image))
  owner-still start entries now same kept = on_told told kept
    where
      on_told : (t : Option (List ℕ)) → IfSome t (IsKeptList start entries (trace old).may_leave) → IfSome t (λ image. LeavesOnly trace old new (KeepsOwner image))
      on_told None kept = tt
      on_told (Some image) kept =
          subst (λ (d : D). LeavesOnly trace old d (KeepsOwner image)) (sym same)
          (LeavesOnly-durable trace (trace old).may_leave old image (KeepsOwner image) now kept.only (owner-self image))
