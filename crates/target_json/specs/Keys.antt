-- The keys of a target's objects, and its own.
use Rattle.std.specs.Prelude.{ℕ, List, codes}
use Rattle.target_json.specs.declared.key.TargetKey.{TargetKey}
use Rattle.target_json.specs.declared.key.TargetKey.TheVariants.{Target, Flows, Name, New, Capacities, From, To, Capacity}

abbrev pub key_text : TargetKey → List ℕ
key_text Target = codes "target"
key_text Flows = codes "flows"
key_text Name = codes "name"
key_text New = codes "new"
key_text Capacities = codes "capacities"
key_text From = codes "from"
key_text To = codes "to"
key_text Capacity = codes "capacity"
