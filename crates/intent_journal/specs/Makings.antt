-- How an image stands between the writes that make a journal of it.
use Rattle.std.specs.Prelude.{◌≡◌, ◌⊎◌, ℕ, ◌+◌, ◌^◌, ◌<◌, ◌≤◌, true, List, ◌∷◌, ◌++◌, length, drop, replicate, Some}
use Rattle.disk_model.specs.Numbers.{byte_at, bytes_8}
use Rattle.intent_journal.specs.Parts.{Kept, new_front}
use Rattle.intent_journal.specs.Images.{blank_most, first_side, first_start, is_blank, is_placed, journal_in, keeps_nothing, live_part, open_slot, opened, second_side}
use Rattle.intent_journal.specs.Phases.{Planned, slot_for}
use Rattle.intent_journal.specs.States.{Home, Stands}

-- the place and the size of a part of the second format, as a slot has them
abbrev pub name_of : ℕ → ℕ → List ℕ
name_of start size = bytes_8 start ++ bytes_8 (2 ^ 62 + size)

-- both slots, of which the first is open and names a part of this size, and the other was never written
abbrev pub slots_bytes : ℕ → List ℕ
slots_bytes size = open_slot ∷ (name_of first_start size ++ replicate 17 0)

abbrev pub IsBlank : List ℕ → Type 0
IsBlank c = is_blank c ≡ true

-- A blank image; or, where only the gate of a journal with the empty list was torn, that journal.
abbrev pub IsBlankOrTorn : List ℕ → List ℕ → Type 0
IsBlankOrTorn before c = IsBlank c ⊎ ((keeps_nothing (live_part (opened before)) ≡ true) × (journal_in c ≡ live_part (opened before)))

-- a blank image, or the new journal
abbrev pub IsBlankOrNew : Kept → List ℕ → Type 0
IsBlankOrNew new c = IsBlank c ⊎ (journal_in c ≡ Some new)

-- The first byte is 0, and the image isn't too long to be blank, whatever stands after that byte.
pub record IsClear (image : List ℕ) : Type 0 where
  pub some : 0 < length image
  pub first : byte_at 0 image ≡ 0
  pub few : length image ≤ blank_most

-- the home of a journal that is made
abbrev pub first_home : Planned → Home
first_home part = record { this = first_side; other = second_side; slot = slot_for first_start part.size }

-- All but the journal's gate is that of the new journal.
pub record IsReady (part : Planned) (image : List ℕ) : Type 0 where
  pub clear : IsClear image
  pub small : part.size ≤ 1000000000
  pub placed : is_placed (first_home part).slot ≡ true
  pub stands : Stands (first_home part).slot (new_front part.kept) part.kept
  pub behind : List ℕ
  pub there : drop 1 image ≡ slots_bytes part.size ++ (new_front part.kept ++ (0 ∷ behind))
