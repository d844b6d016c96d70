-- The words of `left`: the command and pairs.
use Rattle.std.specs.Prelude.{ℕ, List, [], ◌∷◌, codes, bytes_eq, Option, None, if◌then◌else◌}
use Rattle.text_commands.specs.Words.{are_pairs}
use Rattle.swanroll_top.specs.Words.{migration_in}

abbrev pub left_names : List (List ℕ)
left_names = codes "--migration" ∷ []

-- the migration
abbrev pub left_behind : List (List ℕ) → Option ℕ
left_behind pairs = if are_pairs left_names pairs then migration_in pairs else None

abbrev pub left_at : List ℕ → List (List ℕ) → Option ℕ
left_at word rest = if bytes_eq word (codes "left") then left_behind rest else None

-- as which migration what a rollout leaves is asked for
abbrev pub left_in : List (List ℕ) → Option ℕ
left_in [] = None
left_in (word ∷ rest) = left_at word rest
