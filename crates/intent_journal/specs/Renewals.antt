-- How a journal stands between the writes with which it is written anew.
use Rattle.std.specs.Prelude.{◌≡◌, ◌≢◌, ◌⊎◌, ℕ, ◌+◌, ◌-◌, ◌≤◌, ◌==◌, nat_le, true, List, ◌∷◌, ◌++◌, length, take, drop, [], if◌then◌else◌}
use Rattle.intent_journal.specs.declared.found.Found.{Found}
use Rattle.disk_model.specs.Numbers.{byte_at}
use Rattle.intent_journal.specs.Parts.{Kept, Slot, batches_of, new_front, open_batch, size_of}
use Rattle.intent_journal.specs.Images.{first_side, first_start, is_placed, open_journal, open_slot, second_side, slot_at}
use Rattle.intent_journal.specs.Phases.{Planned, end_of, home_of, slot_for}
use Rattle.intent_journal.specs.States.{Home, IsAlone, IsAtRest, Stands}

-- The other slot is closed. The gate after the whole list may be an open one, of a batch that is cut.
pub record IsCut (found : Found) (image : List ℕ) : Type 0 where
  pub alone : IsAlone (home_of found) image
  pub front : List ℕ
  pub mark : ℕ
  pub behind : List ℕ
  pub kept : Kept
  pub stands : Stands (home_of found).slot front kept
  pub part : drop found.start image ≡ front ++ (mark ∷ behind)
  pub at : found.gate ≡ found.start + length front
  pub cut_open : (mark == open_batch) ≡ found.cut
  pub none : batches_of (take (size_of (home_of found).slot - length front) (mark ∷ behind)) ≡ []
  pub long : found.length ≡ length image

-- The journal is at rest, and as long as it was found.
abbrev pub IsClosed : Found → List ℕ → Type 0
IsClosed found image = IsAtRest (home_of found) found.gate image × (found.length ≡ length image)

-- The journal is at rest, and its live part lies within the image.
abbrev pub IsFilled : Found → List ℕ → Type 0
IsFilled found image = IsAtRest (home_of found) found.gate image × (end_of found ≤ length image)

-- A new part stands in front of the live one where there is room for it, else after it.
abbrev pub new_start : Found → ℕ → ℕ
new_start found size = if nat_le (first_start + size) found.start then first_start else end_of found

abbrev pub new_slot : Found → Planned → Slot
new_slot found part = slot_for (new_start found part.size) part.size

-- the other slot, where it names the new part
abbrev pub new_home : Found → Planned → Home
new_home found part = record { this = found.other; other = found.this; slot = new_slot found part }

-- The journal is at rest, and the new part stands beside the live one, with a closed gate after its list.
pub record IsLaid (found : Found) (part : Planned) (image : List ℕ) : Type 0 where
  pub rest : IsAtRest (home_of found) found.gate image
  pub placed : is_placed (new_slot found part) ≡ true
  pub stands : Stands (new_slot found part) (new_front part.kept) part.kept
  pub more : List ℕ
  pub there : drop (new_start found part.size) image ≡ new_front part.kept ++ (0 ∷ more)

-- the other slot names the new part, and is closed
pub record IsNamed (found : Found) (part : Planned) (image : List ℕ) : Type 0 where
  pub laid : IsLaid found part image
  pub named : slot_at found.other image ≡ record (new_slot found part) { gate = byte_at found.other image }

-- Both slots name a whole part; the one that was found is open, and the other may be.
pub record IsBoth (found : Found) (part : Planned) (image : List ℕ) : Type 0 where
  pub sides : ((found.this ≡ first_side) × (found.other ≡ second_side)) ⊎ ((found.this ≡ second_side) × (found.other ≡ first_side))
  pub journal : byte_at 0 image ≡ open_journal
  pub old_is : slot_at found.this image ≡ (home_of found).slot
  pub old_placed : is_placed (home_of found).slot ≡ true
  pub front : List ℕ
  pub mark : ℕ
  pub behind : List ℕ
  pub kept : Kept
  pub old_stands : Stands (home_of found).slot front kept
  pub old_part : drop found.start image ≡ front ++ (mark ∷ behind)
  pub old_closed : mark ≢ open_batch
  pub placed : is_placed (new_slot found part) ≡ true
  pub stands : Stands (new_slot found part) (new_front part.kept) part.kept
  pub more : List ℕ
  pub there : drop (new_start found part.size) image ≡ new_front part.kept ++ (0 ∷ more)
  pub named : slot_at found.other image ≡ record (new_slot found part) { gate = byte_at found.other image }

abbrev pub IsOpened : Found → Planned → List ℕ → Type 0
IsOpened found part image = IsBoth found part image × (byte_at found.other image ≡ open_slot)

-- the new part's slot alone is open
pub record IsMoved (home : Home) (part : Planned) (image : List ℕ) : Type 0 where
  pub alone : IsAlone home image
  pub stands : Stands home.slot (new_front part.kept) part.kept
  pub more : List ℕ
  pub there : drop home.slot.start image ≡ new_front part.kept ++ (0 ∷ more)
