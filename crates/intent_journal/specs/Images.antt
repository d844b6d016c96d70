-- The image of a journal: a gate, two slots, and the parts that they name. What the image keeps is what the first live part keeps.
use Rattle.std.specs.Prelude.{ℕ, ◌+◌, ◌^◌, ◌==◌, ◌&&◌, ◌||◌, not, nat_le, nat_lt, Bool, false, List, [], ◌∷◌, length, drop, Option, Some, None, if◌then◌else◌}
use Rattle.disk_model.specs.Numbers.{byte_at, number_8}
use Rattle.intent_journal.specs.Parts.{Kept, Slot, is_whole, kept_in, size_of}

-- the journal's gate where it is open, and a slot's
abbrev pub open_journal : ℕ
open_journal = 0x54

abbrev pub open_slot : ℕ
open_slot = 0x53

-- where the two slots stand, and where parts may
abbrev pub first_side : ℕ
first_side = 1

abbrev pub second_side : ℕ
second_side = 18

abbrev pub first_start : ℕ
first_start = 35

abbrev pub slot_at : ℕ → List ℕ → Slot
slot_at side image = record {
  gate = byte_at side image;
  start = number_8 (drop (side + 1) image);
  field = number_8 (drop (side + 9) image);
}

-- a part may stand there: after the slots, and of a size within the limit
unfoldable pub is_placed : Slot → Bool
is_placed slot = nat_le first_start slot.start && (nat_lt slot.start (2 ^ 62) && nat_le (size_of slot) 1000000000)

-- the slot is open, and its part's list is whole
abbrev pub is_live : Slot → List ℕ → Bool
is_live slot image = (slot.gate == open_slot) && (is_placed slot && is_whole slot (drop slot.start image))

abbrev pub kept_at : Slot → List ℕ → Kept
kept_at slot image = kept_in slot (drop slot.start image)

-- what the first live part keeps
abbrev pub live_part : List ℕ → Option Kept
live_part image =
    if is_live (slot_at first_side image) image then Some (kept_at (slot_at first_side image) image)
    else if is_live (slot_at second_side image) image then Some (kept_at (slot_at second_side image) image) else None

-- what a journal keeps: its gate is open, and a part is live
abbrev pub journal_in : List ℕ → Option Kept
journal_in image = if byte_at 0 image == open_journal then live_part image else None

-- the list that an image stands for: that of a journal, else the empty one
abbrev pub rows_of_kept : Option Kept → List (List ℕ)
rows_of_kept None = []
rows_of_kept (Some kept) = kept.rows

abbrev pub list_of : List ℕ → List (List ℕ)
list_of image = rows_of_kept (journal_in image)

-- a journal, and its list is empty
abbrev pub keeps_nothing : Option Kept → Bool
keeps_nothing None = false
keeps_nothing (Some kept) = length kept.rows == 0

-- the most bytes of a blank image
unfoldable pub blank_most : ℕ
blank_most = 300000

-- the image with its journal's gate opened
abbrev pub opened : List ℕ → List ℕ
opened image = open_journal ∷ drop 1 image

-- No journal was made yet: at most one byte, or few of which the first is 0, or a journal with the empty list whose gate was torn.
abbrev pub is_blank : List ℕ → Bool
is_blank image =
    nat_le (length image) 1
    || (nat_le (length image) blank_most && ((byte_at 0 image == 0) || (not (byte_at 0 image == open_journal) && keeps_nothing (live_part (opened image)))))
