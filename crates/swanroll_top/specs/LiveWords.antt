-- The words of `report --live`: the command, that word, and pairs.
use Rattle.std.specs.Prelude.{ℕ, ◌&&◌, List, [], ◌∷◌, codes, bytes_eq, Option, None, option_and_then, option_map, if◌then◌else◌}
use Rattle.text_commands.specs.Words.{are_pairs, numbered}
use Rattle.swanroll_top.specs.Words.{migration_in}
use Rattle.swanroll_top.specs.declared.live_words.LiveAsked.{LiveAsked}

abbrev pub live_names : List (List ℕ)
live_names = codes "--follow" ∷ codes "--migration" ∷ []

-- how many seconds lie between two looks, 0 where there is to be one alone, and the migration
abbrev pub live_pairs : List (List ℕ) → Option LiveAsked
live_pairs pairs =
    option_and_then (λ seconds. option_map (λ migration. record { migration = migration; seconds = seconds }) (migration_in pairs))
    (numbered (codes "--follow") (codes "0") 0 86400 pairs)

abbrev pub live_with : List ℕ → List (List ℕ) → Option LiveAsked
live_with word pairs = if bytes_eq word (codes "--live") && are_pairs live_names pairs then live_pairs pairs else None

abbrev pub live_behind : List (List ℕ) → Option LiveAsked
live_behind [] = None
live_behind (word ∷ pairs) = live_with word pairs

abbrev pub live_at : List ℕ → List (List ℕ) → Option LiveAsked
live_at word rest = if bytes_eq word (codes "report") then live_behind rest else None

-- what is asked for of a journal as it stands
abbrev pub live_in : List (List ℕ) → Option LiveAsked
live_in [] = None
live_in (word ∷ rest) = live_at word rest
