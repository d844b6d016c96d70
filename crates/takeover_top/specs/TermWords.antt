-- The words of a `run` that names a term, and the same words without it.
use Rattle.std.specs.Prelude.{◌≡◌, ⊤, ℕ, ◌+◌, ◌<◌, List, [], ◌∷◌, ◌++◌, length, map, take, drop, String, string_bytes, codes, bytes_eq, Option, Some, None, option_and_then, if◌then◌else◌}
use Rattle.std.specs.declared.alloc.Global.{Global}
use Rattle.text_commands.specs.Words.{number_in, value_or, values_of}

-- the term that pairs name once, where it is a number
abbrev pub named_term : List (List ℕ) → Option ℕ
named_term pairs = option_and_then number_in (value_or (codes "--term") [] pairs)

abbrev pub run_term_at : List ℕ → List (List ℕ) → Option ℕ
run_term_at word pairs = if bytes_eq word (codes "run") then named_term pairs else None

abbrev pub run_term_in : List (List ℕ) → Option ℕ
run_term_in [] = None
run_term_in (word ∷ pairs) = run_term_at word pairs

-- the same of a program's words, which clauses don't look into
unfoldable pub run_term_by : List (String Global) → Option ℕ
run_term_by words = run_term_in (map string_bytes words)

-- words that name no term, or term 0, which is that of a controller without one
abbrev pub IsPlain : Option ℕ → Type 0
IsPlain None = ⊤
IsPlain (Some term) = term ≡ 0

-- ---- the words without it

-- Pairs without the first that names a term; all else stays, in its order. A name at the end has no value, and is no pair.
abbrev pub without_pair : List (String Global) → List (String Global)
without_pair [] = []
without_pair (name ∷ []) = name ∷ []
without_pair (name ∷ value ∷ pairs) = if bytes_eq (string_bytes name) (codes "--term") then pairs else name ∷ value ∷ without_pair pairs

-- The arguments without it. In front of the pairs are the program's own name and the word of the command.
abbrev pub without_term : List (String Global) → List (String Global)
without_term [] = []
without_term (program ∷ []) = program ∷ []
without_term (program ∷ command ∷ pairs) = program ∷ command ∷ without_pair pairs

-- What is left of the arguments of a `run` that names a term: all but that pair, in its order, and no other pair names one.
pub record WithoutTerm (before after : List (String Global)) : Type 0 where
  pub rest : after ≡ without_term before
  pub none : values_of (codes "--term") (map string_bytes (drop 2 after)) ≡ []

-- ---- where it stands

-- The name of that pair stands at this place, and its value after it.
pub record StandsAt (arguments : List (String Global)) (place : ℕ) : Type 0 where
  pub inside : place + 1 < length arguments
  pub rest : without_term arguments ≡ take place arguments ++ drop (place + 2) arguments

-- where it stands, if it does
abbrev pub IsTermPlace : List (String Global) → Option ℕ → Type 0
IsTermPlace arguments None = without_term arguments ≡ arguments
IsTermPlace arguments (Some place) = StandsAt arguments place
