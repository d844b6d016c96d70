use Rattle.std.proofs.Common.{◌≡◌, ℕ, List, map, take}
use Rattle.json_data.specs.Nodes.{entry, entry_of}
use Rattle.json_data.proofs.kept.kept_spots.Given as goal

abbrev pub invariant-loop-index : goal.invariant-loop-index
invariant-loop-index l = (text : List ℕ) → map (entry_of text l.kept.items) l.spots.items ≡ take l.index (map entry l.kept.items)
