-- A journal that is put in the place of another, or of a blank image.
use Rattle.std.specs.Prelude.{◌≡◌, ◌⊎◌, ⊤, ℕ, true, false, List, [], Option, None, IfSome, is_some}
use Rattle.rollout_rules.specs.Sums.{list_below}
use Rattle.rollout_rules.specs.Items.{item_count}
use Rattle.rollout_rules.specs.History.{settled}
use Rattle.wan_edge.specs.Streams.{Rose}
use Rattle.disk_model.specs.Crashes.{Only}
use Rattle.dependency_graph.specs.Graph.{Followed}
use Rattle.intent_journal.specs.declared.digest.Digest.{Digest}
use Rattle.intent_journal.specs.declared.fault.JournalFault.{JournalFault}
use Rattle.intent_journal.specs.declared.fault.JournalFault.TheVariants.{BadStart, Disk, Illegal, Memory, NotJournal, OtherPlan}
use Rattle.disk_model.specs.Numbers.{byte_at}
use Rattle.intent_journal.specs.Parts.{Kept}
use Rattle.intent_journal.specs.Images.{is_blank, journal_in}
use Rattle.intent_journal.specs.Phases.{IsBlankOrMade, IsFresh, IsOldOrNew, kept_of}

-- how many operations of each item are settled
abbrev pub settled_numbers : Followed → List ℕ
settled_numbers g = list_below (item_count g.rollout.problem) (settled g.history)

-- what the journal that is placed keeps: what is settled is its start, and its list is empty
abbrev pub placed_kept : Digest → Followed → Kept
placed_kept digest g = kept_of digest (settled_numbers g) []

-- no journal was made, or there is one
abbrev pub MayBePlaced : List ℕ → Type 0
MayBePlaced image = (is_blank image ≡ true) ⊎ (is_some (journal_in image) ≡ true)

-- An image that placing this leaves: what stood; where that is blank, a blank one or the new journal; and where it is a journal, one
-- that keeps what it kept, or what the new one does.
abbrev pub IsStoodOrPlaced : Kept → List ℕ → List ℕ → Type 0
IsStoodOrPlaced new image c =
    (c ≡ image) ⊎ (((is_blank image ≡ true) × IsBlankOrMade new image c) ⊎ ((is_some (journal_in image) ≡ true) × IsOldOrNew (journal_in image) new c))

-- The image is neither blank nor a journal, and begins with this byte.
pub record IsNeither (first : ℕ) (image : List ℕ) : Type 0 where
  pub not_blank : is_blank image ≡ false
  pub no_journal : journal_in image ≡ None
  pub begins : first ≡ byte_at 0 image

-- why an image was refused: it is neither, or memory ran out
abbrev pub IsRefused : JournalFault → List ℕ → Type 0
IsRefused (NotJournal first) image = IsNeither first image
IsRefused Memory image = ⊤
IsRefused Disk image = ⊥
IsRefused (OtherPlan kept wanted) image = ⊥
IsRefused (Illegal place) image = ⊥
IsRefused BadStart image = ⊥

-- that, or the disk failed, and its count rose
abbrev pub IsPlacingFault : JournalFault → Option (List ℕ) → ℕ → ℕ → Type 0
IsPlacingFault (NotJournal first) told old new = IfSome told (IsNeither first)
IsPlacingFault Memory told old new = ⊤
IsPlacingFault Disk told old new = Rose old new
IsPlacingFault (OtherPlan kept wanted) told old new = ⊥
IsPlacingFault (Illegal place) told old new = ⊥
IsPlacingFault BadStart told old new = ⊥

-- The image is this new journal, all of it synced.
pub record IsPlaced (new : Kept) (told : Option (List ℕ)) (left : List ℕ → Type 0) : Type 0 where
  pub fresh : IfSome told (IsFresh new)
  pub durable : IfSome told (λ image. Only image left)
