-- Images of the worked examples.
use Rattle.std.specs.Prelude.{ℕ, List, [], ◌∷◌, ◌++◌, replicate}
use Rattle.intent_journal.specs.Parts.{Kept}

-- an open slot of these eight and eight bytes, and one that was never written
abbrev pub slot_bytes : ℕ → List ℕ → ℕ → List ℕ
slot_bytes start high size = 0x53 ∷ (replicate 7 0 ++ (start ∷ (high ++ (size ∷ []))))

abbrev pub no_slot : List ℕ
no_slot = replicate 17 0

-- the row of the first operation of item 0 begun
abbrev pub begin_row : List ℕ
begin_row = 1 ∷ 0 ∷ 0 ∷ 0 ∷ 0 ∷ 0 ∷ 0 ∷ 0 ∷ 1 ∷ []

-- a part of format 1 with the empty list, without its first gate
abbrev pub first_front : List ℕ
first_front = replicate 32 7 ++ replicate 4 0

-- a part of format 2 of migration 5, which starts with the number 3 alone, with the empty list and without its first gate
abbrev pub second_front : List ℕ
second_front = replicate 32 7 ++ (0 ∷ 0 ∷ 0 ∷ 5 ∷ 0 ∷ 0 ∷ 0 ∷ 1 ∷ 0 ∷ 0 ∷ 0 ∷ 3 ∷ 0 ∷ 0 ∷ 0 ∷ 0 ∷ [])

-- a batch of one entry with this gate, and a closed gate after it
abbrev pub one_batch : ℕ → List ℕ
one_batch gate = gate ∷ 0 ∷ 0 ∷ 0 ∷ 1 ∷ (begin_row ++ (0 ∷ []))

-- journals whose first slot is open, with these bytes after the part's front
abbrev pub first_image : List ℕ → List ℕ
first_image behind = 0x54 ∷ (slot_bytes 35 (replicate 7 0) 65 ++ (no_slot ++ (first_front ++ behind)))

abbrev pub second_image : ℕ → List ℕ → List ℕ
second_image gate behind = gate ∷ (slot_bytes 35 (0x40 ∷ replicate 6 0) 77 ++ (no_slot ++ (second_front ++ behind)))

-- what these keep
abbrev pub first_kept : List (List ℕ) → Kept
first_kept rows = record { digest = replicate 32 7; migration = 0; starts = []; rows = rows }

abbrev pub second_kept : List (List ℕ) → Kept
second_kept rows = record { digest = replicate 32 7; migration = 5; starts = 3 ∷ []; rows = rows }
