-- Which list an image keeps, as a book knows it.
use Rattle.std.specs.Prelude.{◌≡◌, ◌⊎◌, ℕ, List, ◌++◌, Some, IfSome}
use Rattle.rollout_rules.specs.declared.op.Entry.{Entry}
use Rattle.disk_model.specs.Crashes.{Only}
use Rattle.intent_journal.specs.Entries.{entry_rows}
use Rattle.intent_journal.specs.Images.{journal_in}
use Rattle.intent_journal.specs.Parts.{Kept}

-- The image is a journal with this start and these entries.
pub record HasList (start : List ℕ) (entries : List Entry) (image : List ℕ) : Type 0 where
  pub kept : Kept
  pub is : journal_in image ≡ Some kept
  pub starts : kept.starts ≡ start
  pub rows : kept.rows ≡ entry_rows entries

-- A crash leaves this image alone, and it has this list.
pub record IsKeptList (start : List ℕ) (entries : List Entry) (left : List ℕ → Type 0) (image : List ℕ) : Type 0 where
  pub only : Only image left
  pub has : HasList start entries image

-- the list, or the list with the whole of a batch after it
abbrev pub HasBeforeOrAfter : List ℕ → List Entry → List Entry → List ℕ → Type 0
HasBeforeOrAfter start entries batch image = HasList start entries image ⊎ HasList start (entries ++ batch) image

-- what was made for a digest and a migration still is
pub record HasOwner (kept : Kept) (image : List ℕ) : Type 0 where
  pub now : Kept
  pub is : journal_in image ≡ Some now
  pub digest : now.digest ≡ kept.digest
  pub migration : now.migration ≡ kept.migration

-- The journal of an image is of the same digest and migration as that of an earlier one.
abbrev pub KeepsOwner : List ℕ → List ℕ → Type 0
KeepsOwner before image = IfSome (journal_in before) (λ kept. HasOwner kept image)
