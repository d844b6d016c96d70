-- The digest by which a journal knows its problem and its plan.
use Rattle.std.specs.Prelude.{ℕ, List, ◌∷◌, ◌++◌}
use Rattle.sha2.specs.Sha256.{sha256}

-- that of the two texts with a line feed between them
abbrev pub digest_bytes : List ℕ → List ℕ → List ℕ
digest_bytes problem plan = sha256 (problem ++ 10 ∷ plan)
