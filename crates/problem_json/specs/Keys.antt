-- The keys of an input's objects.
use Rattle.std.specs.Prelude.{ℕ, List, codes}
use Rattle.problem_json.specs.declared.key.Key.{Key}
use Rattle.problem_json.specs.declared.key.Key.TheVariants.{Capacity, Flows, Format, From, Installed, Least, Link, Links, Name, New, Old, Path, Plan, Problem, Rates, Rows, Scale, Script, Stages, Steps, Switches, Table, To, Tunnels, Width}

abbrev pub key_text : Key → List ℕ
key_text Capacity = codes "capacity"
key_text Flows = codes "flows"
key_text Format = codes "format"
key_text From = codes "from"
key_text Installed = codes "installed"
key_text Least = codes "least"
key_text Link = codes "link"
key_text Links = codes "links"
key_text Name = codes "name"
key_text New = codes "new"
key_text Old = codes "old"
key_text Path = codes "path"
key_text Plan = codes "plan"
key_text Problem = codes "problem"
key_text Rates = codes "rates"
key_text Rows = codes "rows"
key_text Scale = codes "scale"
key_text Script = codes "script"
key_text Stages = codes "stages"
key_text Steps = codes "steps"
key_text Switches = codes "switches"
key_text Table = codes "table"
key_text To = codes "to"
key_text Tunnels = codes "tunnels"
key_text Width = codes "width"
