-- The bytes of a medium as those at first and the writes since then.
use Rattle.std.specs.Prelude.{◌≡◌, ℕ, ◌<◌, ◌≤◌, List, [], ◌∷◌, length}
use Rattle.disk_model.specs.declared.medium.Write.{Write}
use Rattle.disk_model.specs.Writes.{written}

-- what these writes, one after the other, make of bytes
abbrev pub applied : List ℕ → List Write → List ℕ
applied bytes [] = bytes
applied bytes (write ∷ later) = applied (written write.at write.bytes bytes) later

-- the place and length of a write
abbrev pub range_of : Write → ℕ × ℕ
range_of write = (write.at, length write.bytes)

-- No more writes were synced than there were, and the bytes are what the writes made of those at first.
pub record IsLogged (first bytes : List ℕ) (writes : List Write) (synced : ℕ) : Type 0 where
  pub within : synced ≤ length writes
  pub are : 0 < length writes → bytes ≡ applied first writes
