-- What reading has found of a journal, and what the writes that follow it leave.
use Rattle.std.specs.Prelude.{◌≡◌, ◌⊎◌, ℕ, ◌+◌, ◌*◌, ◌<◌, ◌≤◌, ◌^◌, ◌-◌, ◌==◌, ◌&&◌, nat_lt, Bool, true, false, List, [], ◌∷◌, ◌++◌, length, take, drop, Option, Some, None, IfSome}
use Rattle.rollout_rules.specs.declared.op.Entry.{Entry}
use Rattle.intent_journal.specs.declared.digest.Digest.{Digest}
use Rattle.intent_journal.specs.declared.found.Found.{Found}
use Rattle.disk_model.specs.Numbers.{byte_at}
use Rattle.intent_journal.specs.Entries.{entry_rows}
use Rattle.intent_journal.specs.Parts.{Kept, Slot, batches_of, is_second, kept_in, new_front, open_batch, size_of}
use Rattle.intent_journal.specs.Images.{first_side, is_blank, is_live, is_placed, journal_in, keeps_nothing, live_part, open_journal, open_slot, opened, second_side, slot_at}
use Rattle.intent_journal.specs.Opened.{IsKept}
use Rattle.intent_journal.specs.States.{CanBeKept, Home, IsAlone, Stands}

-- the live slot and its side, and the other's
abbrev pub home_of : Found → Home
home_of found = record { this = found.this; other = found.other; slot = record { gate = open_slot; start = found.start; field = found.field } }

-- where its part ends
abbrev pub end_of : Found → ℕ
end_of found = found.start + size_of (home_of found).slot

-- This was found of the image: its live slot, whether the other slot is open too, the gate after the whole list, and whether that is
-- an open one, of a batch that is cut.
pub record IsFound (found : Found) (image : List ℕ) : Type 0 where
  pub sides : ((found.this ≡ first_side) × (found.other ≡ second_side)) ⊎ ((found.this ≡ second_side) × (found.other ≡ first_side))
  pub journal : byte_at 0 image ≡ open_journal
  pub is : slot_at found.this image ≡ (home_of found).slot
  pub placed : is_placed (home_of found).slot ≡ true
  pub first_dead : found.this ≡ second_side → is_live (slot_at first_side image) image ≡ false
  pub also_open : (byte_at found.other image == open_slot) ≡ found.also
  pub front : List ℕ
  pub mark : ℕ
  pub behind : List ℕ
  pub kept : Kept
  pub stands : Stands (home_of found).slot front kept
  pub part : drop found.start image ≡ front ++ (mark ∷ behind)
  pub at : found.gate ≡ found.start + length front
  pub cut_open : (mark == open_batch) ≡ found.cut
  pub none : batches_of (take (size_of (home_of found).slot - length front) (mark ∷ behind)) ≡ []
  pub long : found.length ≡ length image

-- what the journal that is told keeps
abbrev pub kept_by : Option (List ℕ) → Option Kept
kept_by None = None
kept_by (Some image) = journal_in image

-- an image that keeps what was kept
abbrev pub IsOld : Option Kept → List ℕ → Type 0
IsOld old c = journal_in c ≡ old

-- an image that keeps what was kept, or what a new part keeps
abbrev pub IsOldOrNew : Option Kept → Kept → List ℕ → Type 0
IsOldOrNew old new c = (journal_in c ≡ old) ⊎ (journal_in c ≡ Some new)

-- what a part with this digest, start and list keeps
abbrev pub kept_of : Digest → List ℕ → List Entry → Kept
kept_of digest starts entries = record { digest = digest.bytes; migration = digest.migration; starts = starts; rows = entry_rows entries }

-- a part that is to be written: what it keeps, and its size
pub record Planned : Type 0 where
  pub kept : Kept
  pub size : ℕ

-- an open slot of the second format at this place
abbrev pub slot_for : ℕ → ℕ → Slot
slot_for start size = record { gate = open_slot; start = start; field = 2 ^ 62 + size }

-- what the bytes of a part of the second format keep
abbrev pub planned : ℕ → List ℕ → Planned
planned size bytes = record { kept = kept_in (slot_for 0 size) bytes; size = size }

-- the bytes of a part up to its first gate, which is closed
pub record IsPlanned (part : Planned) (bytes : List ℕ) : Type 0 where
  pub is : bytes ≡ new_front part.kept ++ 0 ∷ []
  pub can_be : CanBeKept part.kept
  pub fits : length bytes ≤ part.size
  pub small : part.size ≤ 1000000000

-- One slot is open, of the second format; the count of its part has the whole list, and the gate after it is closed.
pub record IsFresh (kept : Kept) (image : List ℕ) : Type 0 where
  pub home : Home
  pub more : List ℕ
  pub alone : IsAlone home image
  pub second : is_second home.slot ≡ true
  pub part : drop home.slot.start image ≡ new_front kept ++ (0 ∷ more)
  pub keeps : journal_in image ≡ Some kept

-- The journal was written anew: it is at rest with this gate, in a part with this end, whose count has the whole list.
pub record IsRenewed (gate end : ℕ) (part : Planned) (told : Option (List ℕ)) (left : List ℕ → Type 0) : Type 0 where
  pub kept : IsKept gate end told left
  pub fresh : IfSome told (IsFresh part.kept)
  pub room : end + (44 + 4 * length part.kept.starts + 9 * length part.kept.rows) ≡ gate + part.size
  pub small : end < 2 ^ 63

-- the first byte is there, and is 0
abbrev pub is_cleared : List ℕ → Bool
is_cleared image = nat_lt 0 (length image) && (byte_at 0 image == 0)

-- no journal was made yet, and this says whether the first byte is 0
abbrev pub IsBlankFound : Bool → List ℕ → Type 0
IsBlankFound cleared image = (is_blank image ≡ true) × (is_cleared image ≡ cleared)

-- A blank image, or the new journal; or, where only the gate of a journal with the empty list was torn, that journal.
abbrev pub IsBlankOrMade : Kept → List ℕ → List ℕ → Type 0
IsBlankOrMade new before c =
    (is_blank c ≡ true) ⊎ (journal_in c ≡ Some new) ⊎ ((keeps_nothing (live_part (opened before)) ≡ true) × (journal_in c ≡ live_part (opened before)))
