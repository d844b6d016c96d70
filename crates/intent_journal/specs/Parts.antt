-- A part of a journal: the digest, of the second format the migration and the numbers that it starts with, a list of entries, and
-- batches of further ones. Everything is read from the part's own bytes. An entry is seen as its nine bytes, so that lists of bytes
-- that are no entries can be compared too.
use Rattle.std.specs.Prelude.{ℕ, zero, suc, ◌+◌, ◌-◌, ◌*◌, ◌^◌, ◌==◌, ◌&&◌, nat_le, nat_lt, Bool, List, [], ◌∷◌, ◌++◌, length, take, drop, if◌then◌else◌}
use Rattle.disk_model.specs.Numbers.{bytes_4, number_4}

-- where a part stands: the gate of the slot, the part's first byte, and the field of its size
pub record Slot : Type 0 where
  pub gate : ℕ
  pub start : ℕ
  pub field : ℕ

-- Of a part of the second format the field is 2^62 more than the size.
abbrev pub is_second : Slot → Bool
is_second slot = nat_le (2 ^ 62) slot.field

abbrev pub size_of : Slot → ℕ
size_of slot = if is_second slot then slot.field - 2 ^ 62 else slot.field

abbrev pub digest_in : List ℕ → List ℕ
digest_in part = take 32 part

abbrev pub migration_in : Slot → List ℕ → ℕ
migration_in slot part = if is_second slot then number_4 (drop 32 part) else 0

-- how many numbers it starts with
abbrev pub start_count : Slot → List ℕ → ℕ
start_count slot part = if is_second slot then number_4 (drop 36 part) else 0

-- n numbers of four bytes
abbrev pub numbers : ℕ → List ℕ → List ℕ
numbers zero bytes = []
numbers (suc n) bytes = number_4 bytes ∷ numbers n (drop 4 bytes)

abbrev pub starts_in : Slot → List ℕ → List ℕ
starts_in slot part = numbers (start_count slot part) (drop 40 part)

-- where the count of the list's entries stands, how many there are, and where the gate after them stands
abbrev pub count_place : Slot → List ℕ → ℕ
count_place slot part = if is_second slot then 40 + 4 * start_count slot part else 32

abbrev pub count_of : Slot → List ℕ → ℕ
count_of slot part = number_4 (drop (count_place slot part) part)

abbrev pub first_gate : Slot → List ℕ → ℕ
first_gate slot part = count_place slot part + 4 + 9 * count_of slot part

-- The list and the gate after it are all there, and within the part's size.
abbrev pub is_whole : Slot → List ℕ → Bool
is_whole slot part = nat_lt (first_gate slot part) (size_of slot) && nat_lt (first_gate slot part) (length part)

-- n rows of nine bytes
abbrev pub rows : ℕ → List ℕ → List (List ℕ)
rows zero bytes = []
rows (suc n) bytes = take 9 bytes ∷ rows n (drop 9 bytes)

-- an open gate of a batch
abbrev pub open_batch : ℕ
open_batch = 0x47

-- the entries of the batches from this gate on, up to the first gate that is closed or whose batch has no whole body with a byte after it
abbrev pub batches : ℕ → List ℕ → List (List ℕ)
batches zero bytes = []
batches (suc fuel) [] = []
batches (suc fuel) (gate ∷ rest) =
    if (gate == open_batch) && nat_lt (4 + 9 * number_4 rest) (length rest)
    then rows (number_4 rest) (drop 4 rest) ++ batches fuel (drop (4 + 9 * number_4 rest) rest)
    else []

abbrev pub batches_of : List ℕ → List (List ℕ)
batches_of bytes = batches (length bytes) bytes

-- all entries of a part: those of its list, and those of its batches within its size
abbrev pub part_rows : Slot → List ℕ → List (List ℕ)
part_rows slot part =
    rows (count_of slot part) (drop (count_place slot part + 4) part) ++ batches_of (take (size_of slot - first_gate slot part) (drop (first_gate slot part) part))

-- what a part keeps
pub record Kept : Type 0 where
  pub digest : List ℕ
  pub migration : ℕ
  pub starts : List ℕ
  pub rows : List (List ℕ)

abbrev pub kept_in : Slot → List ℕ → Kept
kept_in slot part = record {
  digest = digest_in part;
  migration = migration_in slot part;
  starts = starts_in slot part;
  rows = part_rows slot part;
}

-- what a part keeps without its batches
abbrev pub listed_in : Slot → List ℕ → Kept
listed_in slot part = record {
  digest = digest_in part;
  migration = migration_in slot part;
  starts = starts_in slot part;
  rows = rows (count_of slot part) (drop (count_place slot part + 4) part);
}

-- rows, one after the other
abbrev pub joined : List (List ℕ) → List ℕ
joined [] = []
joined (row ∷ later) = row ++ joined later

-- the bytes of a batch after its gate: how many entries, and each of them
abbrev pub batch_body : List (List ℕ) → List ℕ
batch_body batch = bytes_4 (length batch) ++ joined batch

-- numbers of four bytes, one after the other
abbrev pub number_bytes : List ℕ → List ℕ
number_bytes [] = []
number_bytes (n ∷ later) = bytes_4 n ++ number_bytes later

-- the front of a part of the second format that keeps this, up to its first gate
abbrev pub new_front : Kept → List ℕ
new_front kept =
    kept.digest ++ (bytes_4 kept.migration ++ (bytes_4 (length kept.starts) ++ (number_bytes kept.starts ++ (bytes_4 (length kept.rows) ++ joined kept.rows))))
