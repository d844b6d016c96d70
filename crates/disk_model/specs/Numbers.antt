-- Numbers in a row of bytes, big endian. A byte that is missing counts as 0.
use Rattle.std.specs.Prelude.{ℕ, List, ◌++◌, take, replicate, slice_index_or}
use Rattle.std.specs.Int.{w32, w64, from_be_bytes, to_be_bytes}

abbrev pub byte_at : ℕ → List ℕ → ℕ
byte_at place bytes = slice_index_or bytes place 0

-- the number in the first four bytes, and in the first eight
unfoldable pub number_4 : List ℕ → ℕ
number_4 bytes = from_be_bytes w32 (take 4 (bytes ++ replicate 4 0))

unfoldable pub number_8 : List ℕ → ℕ
number_8 bytes = from_be_bytes w64 (take 8 (bytes ++ replicate 8 0))

-- the four bytes of a number, and the eight
unfoldable pub bytes_4 : ℕ → List ℕ
bytes_4 n = to_be_bytes w32 n

unfoldable pub bytes_8 : ℕ → List ℕ
bytes_8 n = to_be_bytes w64 n
