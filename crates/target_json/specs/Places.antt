-- The places of a document with a target, and how they are printed.
use Rattle.std.specs.Prelude.{ℕ, List, [], ◌++◌, codes, decimal}
use Rattle.target_json.specs.declared.place.TargetPlace.{TargetPlace}
use Rattle.target_json.specs.declared.place.TargetPart.{TargetPart}
use Rattle.target_json.specs.declared.place.TargetPart.TheVariants.{Top, Target, Flows, Flow, FlowName, Rates, Rate, Capacities, Link, LinkFrom, LinkTo, LinkCapacity}

-- a part that no number leads to
abbrev pub place_of : TargetPart → TargetPlace
place_of what = record { part = what; a = 0; b = 0 }

-- a part of the a-th flow, or of the a-th link to which a capacity is given
abbrev pub place_at : TargetPart → ℕ → TargetPlace
place_at what m = record { part = what; a = m; b = 0 }

-- the b-th element of a list of the a-th flow
abbrev pub place_in : TargetPart → ℕ → ℕ → TargetPlace
place_in what m n = record { part = what; a = m; b = n }

-- a flow and a link, with what stands after them
abbrev pub flow_text : ℕ → List ℕ → List ℕ
flow_text m behind = codes "target.flows[" ++ decimal m ++ codes "]" ++ behind

abbrev pub link_text : ℕ → List ℕ → List ℕ
link_text m behind = codes "target.capacities[" ++ decimal m ++ codes "]" ++ behind

abbrev pub part_text : TargetPart → ℕ → ℕ → List ℕ
part_text Top m n = codes "top"
part_text Target m n = codes "target"
part_text Flows m n = codes "target.flows"
part_text Flow m n = flow_text m []
part_text FlowName m n = flow_text m (codes ".name")
part_text Rates m n = flow_text m (codes ".new")
part_text Rate m n = codes "target.flows[" ++ decimal m ++ codes "].new[" ++ decimal n ++ codes "]"
part_text Capacities m n = codes "target.capacities"
part_text Link m n = link_text m []
part_text LinkFrom m n = link_text m (codes ".from")
part_text LinkTo m n = link_text m (codes ".to")
part_text LinkCapacity m n = link_text m (codes ".capacity")

abbrev pub place_text : TargetPlace → List ℕ
place_text place = part_text place.part place.a place.b
