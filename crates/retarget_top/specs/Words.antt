-- The words of `retarget`: the command and pairs.
use Rattle.std.specs.Prelude.{ℕ, Option, Some, None, option_map, option_and_then, List, [], ◌∷◌, codes, bytes_eq, nat_lt, if◌then◌else◌}
use Rattle.text_commands.specs.Words.{are_pairs, number_in, planner_in, value_or}
use Rattle.text_commands.specs.declared.words.Planner.{Planner}
use Rattle.retarget_top.specs.declared.words.RetargetAsked.{RetargetAsked}

-- what is asked for: as which migration, who chooses, and the link that is to be shed; no name is none
pub record Asked : Type 0 where
  pub migration : ℕ
  pub planner : Planner
  pub shed : List ℕ

abbrev pub asked : RetargetAsked → Asked
asked a = record { migration = a.migration; planner = a.planner; shed = a.shed.now }

abbrev pub retarget_names : List (List ℕ)
retarget_names = codes "--migration" ∷ codes "--planner" ∷ codes "--shed" ∷ []

-- a migration that has a next one
abbrev pub last_migration : ℕ
last_migration = 4294967295

abbrev pub before_last : ℕ → Option ℕ
before_last migration = if nat_lt migration last_migration then Some migration else None

abbrev pub migration_in : List (List ℕ) → Option ℕ
migration_in pairs = option_and_then before_last (option_and_then number_in (value_or (codes "--migration") (codes "0") pairs))

abbrev pub shed_in : List (List ℕ) → Option (List ℕ)
shed_in pairs = value_or (codes "--shed") [] pairs

abbrev pub retarget_pairs : List (List ℕ) → Option Asked
retarget_pairs pairs =
    option_and_then (λ migration. option_and_then (λ planner. option_map (λ shed. record { migration = migration; planner = planner; shed = shed }) (shed_in pairs)) (planner_in pairs)) (migration_in pairs)

abbrev pub retarget_behind : List (List ℕ) → Option Asked
retarget_behind pairs = if are_pairs retarget_names pairs then retarget_pairs pairs else None

abbrev pub retarget_at : List ℕ → List (List ℕ) → Option Asked
retarget_at word rest = if bytes_eq word (codes "retarget") then retarget_behind rest else None

-- what the words ask for, where they ask for this
abbrev pub retarget_in : List (List ℕ) → Option Asked
retarget_in [] = None
retarget_in (word ∷ rest) = retarget_at word rest
