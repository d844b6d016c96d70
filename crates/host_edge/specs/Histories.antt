-- How a history of what went over a way is tied to a stream that tells its bytes.
use Rattle.std.specs.Prelude.{◌≡◌, ℕ, ◌≤◌, List, ◌++◌, length, take, Option}
use Rattle.std.specs.Io.KnownBytes.{Appends, Consumes}

-- the history grew by the first of these bytes, perhaps none or all of them
pub record AddsFront (before bytes now : List ℕ) : Type 0 where
  pub count : ℕ
  pub within : count ≤ length bytes
  pub added : now ≡ before ++ take count bytes

-- what was consumed of the bytes that a reader has left is what the history grew by
pub record Gives (left left_now : Option (List ℕ)) (before now : List ℕ) : Type 0 where
  pub piece : List ℕ
  pub consumed : Consumes left left_now piece
  pub added : now ≡ before ++ piece

-- what was appended to the bytes that a writer holds is what the history grew by
pub record Carries (held held_now : Option (List ℕ)) (before now : List ℕ) : Type 0 where
  pub piece : List ℕ
  pub appended : Appends held held_now piece
  pub added : now ≡ before ++ piece
