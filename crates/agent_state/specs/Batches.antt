-- The batches of a part of an agent's file. Each stands after a gate: how many bytes it has, and these, and after it the next gate.
use Rattle.std.specs.Prelude.{◌≡◌, ℕ, zero, suc, ◌+◌, ◌<◌, ◌^◌, ◌==◌, ◌&&◌, nat_lt, List, [], ◌∷◌, ◌++◌, length, take, drop, if◌then◌else◌}
use Rattle.disk_model.specs.Numbers.{bytes_4, number_4}

-- an open gate
abbrev pub open_gate : ℕ
open_gate = 0x47

-- the batches from this gate on, up to the first gate that is closed or whose batch has no whole body with a byte after it
abbrev pub batches : ℕ → List ℕ → List (List ℕ)
batches zero bytes = []
batches (suc fuel) [] = []
batches (suc fuel) (gate ∷ rest) =
    if (gate == open_gate) && nat_lt (4 + number_4 rest) (length rest)
    then take (number_4 rest) (drop 4 rest) ∷ batches fuel (drop (4 + number_4 rest) rest)
    else []

abbrev pub batches_of : List ℕ → List (List ℕ)
batches_of bytes = batches (length bytes) bytes

-- the bytes of a batch after its gate
abbrev pub batch_body : List ℕ → List ℕ
batch_body batch = bytes_4 (length batch) ++ batch

-- These bytes are those of a batch and of a closed gate after it.
pub record IsBody (batch body : List ℕ) : Type 0 where
  pub few : length batch < 2 ^ 32
  pub is : body ≡ batch_body batch ++ 0 ∷ []

-- Whatever stands after this front of a part, these batches stand in it.
pub record Stands (front : List ℕ) (kept : List (List ℕ)) : Type 0 where
  pub counts : (tail : List ℕ) → 0 < length tail → batches_of (front ++ tail) ≡ kept ++ batches_of tail
