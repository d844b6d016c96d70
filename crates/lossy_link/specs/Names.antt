-- The names of switches.
use Rattle.std.specs.Prelude.{ℕ, ◌==◌, Bool, false, List, Option, Some, None, bytes_eq}
use Rattle.std.specs.Map.{lookup}

-- each switch that has a name, with this
abbrev pub NameRows : Type 0
NameRows = List (ℕ × List ℕ)

-- the name of a switch, where it has one
abbrev pub name_at : NameRows → ℕ → Option (List ℕ)
name_at names = λ switch. lookup (λ key. switch == key) names

-- whether a switch of this name, if it has one, is called so
abbrev pub is_called : Option (List ℕ) → List ℕ → Bool
is_called None name = false
is_called (Some own) name = bytes_eq own name
