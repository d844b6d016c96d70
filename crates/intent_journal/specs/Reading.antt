-- What is read of an image: its live slot, the rows of that slot's part, and the gate after them.
use Rattle.std.specs.Prelude.{◌≡◌, ℕ, ◌+◌, ◌-◌, ◌*◌, ◌<◌, ◌≤◌, ◌==◌, ◌&&◌, nat_lt, Bool, true, false, List, [], ◌∷◌, ◌++◌, length, take, drop, Option, Some, None, if◌then◌else◌}
use Rattle.rollout_rules.specs.declared.op.Entry.{Entry}
use Rattle.disk_model.specs.Numbers.{byte_at, number_4}
use Rattle.intent_journal.specs.Entries.{entry_in}
use Rattle.intent_journal.specs.Parts.{Slot, batches_of, kept_in, open_batch, part_rows, size_of}
use Rattle.intent_journal.specs.Images.{first_side, is_live, list_of, second_side, slot_at}
use Rattle.intent_journal.specs.States.{Stands, with_more}
use Rattle.intent_journal.specs.Parts.{Kept}

-- the side of the first live slot
abbrev pub live_side : List ℕ → Option ℕ
live_side image =
    if is_live (slot_at first_side image) image then Some first_side
    else if is_live (slot_at second_side image) image then Some second_side else None

-- the entries of rows up to the first row that is none, and whether each row is one
pub record Listed : Type 0 where
  pub entries : List Entry
  pub whole : Bool

abbrev pub nothing_read : Listed
nothing_read = record { entries = []; whole = true }

abbrev pub is_empty : Listed → Bool
is_empty listed = listed.whole && (length listed.entries == 0)

abbrev pub with_row : Listed → Option Entry → Listed
with_row listed None = record { entries = listed.entries; whole = false }
with_row listed (Some entry) = if listed.whole then record { entries = listed.entries ++ entry ∷ []; whole = true } else listed

abbrev pub with_rows : Listed → List (List ℕ) → Listed
with_rows listed [] = listed
with_rows listed (row ∷ later) = with_rows (with_row listed (entry_in row)) later

-- the entries of the list that an image stands for
abbrev pub entries_of : List ℕ → Listed
entries_of image = with_rows nothing_read (list_of image)

-- The image stands for this list, each row of which is an entry.
abbrev pub Lists : List Entry → List ℕ → Type 0
Lists list image = entries_of image ≡ record { entries = list; whole = true }

-- how many entries the batch after a gate has, where the gate is open, the batch is whole and a byte stands after it
abbrev pub batch_at : List ℕ → ℕ → Option ℕ
batch_at bytes gate =
    if (byte_at gate bytes == open_batch) && nat_lt (4 + 9 * number_4 (drop (gate + 1) bytes)) (length (drop (gate + 1) bytes))
    then Some (number_4 (drop (gate + 1) bytes)) else None

-- the entries that were read, where each row is one
abbrev pub whole_list : Listed → Option (List Entry)
whole_list listed = if listed.whole then Some listed.entries else None

-- the entries of the batches that stand from a gate on, where each of their rows is one
abbrev pub entries_from : ℕ → List ℕ → Option (List Entry)
entries_from gate image = whole_list (with_rows nothing_read (batches_of (drop gate image)))

-- From one gate to another stand batches with these rows, which were read.
pub record Walks (bytes : List ℕ) (from gate : ℕ) (old new : Listed) : Type 0 where
  pub rows : List (List ℕ)
  pub within : gate < length bytes
  pub read : new ≡ with_rows old rows
  pub are : batches_of (drop from bytes) ≡ rows ++ batches_of (drop gate bytes)
  pub stands : (slot : Slot) (kept : Kept) → length bytes ≤ size_of slot → Stands slot (take from bytes) kept → Stands slot (take gate bytes) (with_more kept rows)

-- All rows of a part were read, and this is the gate after them: no further batch counts.
pub record IsRead (slot : Slot) (part : List ℕ) (listed : Listed) (gate : ℕ) : Type 0 where
  pub all : listed ≡ with_rows nothing_read (part_rows slot part)
  pub within : gate < length part
  pub stands : Stands slot (take gate part) (kept_in slot part)
  pub none : batches_of (take (size_of slot - gate) (drop gate part)) ≡ []
