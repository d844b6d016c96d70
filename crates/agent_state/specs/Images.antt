-- What the bytes of an agent's file are read as. At its head stand the kind of the file, a byte that says which of two numbers names the live part, and these
-- numbers; after the head stand parts.
use Rattle.std.specs.Prelude.{ℕ, ◌==◌, ◌&&◌, nat_le, nat_lt, Bool, List, [], ◌∷◌, length, drop, Option, Some, None, if◌then◌else◌}
use Rattle.agent_state.specs.Batches.{batches_of}
use Rattle.disk_model.specs.Numbers.{byte_at, number_4}

-- the first byte
abbrev pub state_kind : ℕ
state_kind = 0x55

-- where the first part starts, and how many bytes a file has in which no batch stands yet
abbrev pub first_start : ℕ
first_start = 10

abbrev pub made_length : ℕ
made_length = 11

-- the bytes of such a file: both numbers name the part after the head, in which a closed gate stands
abbrev pub made : List ℕ
made = state_kind ∷ 0 ∷ 0 ∷ 0 ∷ 0 ∷ 10 ∷ 0 ∷ 0 ∷ 0 ∷ 10 ∷ 0 ∷ []

-- whether the second number names the live part
abbrev pub is_second : List ℕ → Bool
is_second image = byte_at 1 image == 1

-- where the number stands
abbrev pub number_place : Bool → ℕ
number_place second = if second then 6 else 2

abbrev pub start_at : Bool → List ℕ → ℕ
start_at second image = number_4 (drop (number_place second) image)

-- where the live part starts
abbrev pub live_start : List ℕ → ℕ
live_start image = start_at (is_second image) image

-- whether the image is an agent's: it has the kind, and its live part starts after the head and within it
abbrev pub is_state : List ℕ → Bool
is_state image = (byte_at 0 image == state_kind) && (nat_le first_start (live_start image) && nat_lt (live_start image) (length image))

-- The batches that an image is read as; None is an image of something else. One that is no longer than a file without a batch is such a file, perhaps cut
-- off as it was made.
abbrev pub batches_in : List ℕ → Option (List (List ℕ))
batches_in image =
    if nat_le (length image) made_length then Some []
    else if is_state image then Some (batches_of (drop (live_start image) image)) else None
