-- How names, switches, links and the spots of broken clauses are printed.
use Rattle.std.specs.Prelude.{ℕ, List, ◌++◌, codes, decimal}
use Rattle.serde_json.specs.Data.{string}
use Rattle.serde_json.specs.Written.{compact_text}
use Rattle.rollout_rules.specs.Wan.{Problem, switch_at, link_at}
use Rattle.rollout_rules.specs.declared.item.Spot.{Spot}
use Rattle.rollout_rules.specs.declared.item.Spot.TheVariants.{Whole, Tunnel, Link, Table, Flow}

-- a name is printed as its JSON text
abbrev pub name_text : List ℕ → List ℕ
name_text name = compact_text (string name)

-- a switch is printed as its name, a link as those of its ends
abbrev pub switch_text : Problem → ℕ → List ℕ
switch_text p w = name_text (switch_at p w).name

abbrev pub link_text : Problem → ℕ → List ℕ
link_text p l = switch_text p (link_at p l).from ++ codes ">" ++ switch_text p (link_at p l).to

-- what a broken clause speaks of
abbrev pub spot_text : Problem → Spot → List ℕ
spot_text p Whole = codes "whole"
spot_text p (Tunnel t) = codes "tunnel " ++ decimal t
spot_text p (Link l) = codes "link " ++ link_text p l
spot_text p (Table w) = codes "table " ++ switch_text p w
spot_text p (Flow f) = codes "flow " ++ decimal f
