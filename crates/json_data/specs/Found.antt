-- The last member of a name, found by going over the nodes.
use Rattle.std.specs.Prelude.{ℕ, zero, suc, List, [], ◌∷◌, Option, Some, if◌then◌else◌}
use Rattle.std.specs.Str.{bytes_eq}
use Rattle.serde_json.specs.Data.{Data}
use Rattle.json_data.specs.Nodes.{Entry, behind, key_of, value_at}

abbrev pub found_by : List ℕ → ℕ → List Entry → Option Data → Option Data
found_by name zero ns found = found
found_by name (suc count) [] found = found
found_by name (suc count) (key ∷ ns) found = found_by name count (behind ns) (if bytes_eq (key_of key) name then Some (value_at ns) else found)
