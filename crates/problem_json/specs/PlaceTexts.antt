-- How the places of an input are printed.
use Rattle.std.specs.Prelude.{ℕ, List, ◌++◌, codes, decimal}
use Rattle.problem_json.specs.declared.place.Place.{Place}
use Rattle.problem_json.specs.declared.place.Part.{Part}
use Rattle.problem_json.specs.declared.place.Part.TheVariants.{Top, Problem, Format, Switches, Switch, SwitchName, SwitchTable, Links, Link, LinkFrom, LinkTo, LinkCapacity, Flows, Flow, FlowName, Tunnels, Tunnel, Path, PathName, Old, New, Width, PlanTop, Scale, Stages, Stage, Rates, Rate, Installed, Mark, ScriptTop, Event, LeastTop, LeastSteps, LeastLink, LeastRows, LeastRow}

-- a stage by its number

unfoldable pub stage_text : ℕ → List ℕ
stage_text m = codes "plan.stages[" ++ decimal m ++ codes "]"

-- a stage's list of marks by the stage's number

unfoldable pub installed_text : ℕ → List ℕ
installed_text m = codes "plan.stages[" ++ decimal m ++ codes "].installed"

-- a tunnel by its flow's number and its own in the flow

unfoldable pub tunnel_text : ℕ → ℕ → List ℕ
tunnel_text m n = codes "flows[" ++ decimal m ++ codes "].tunnels[" ++ decimal n ++ codes "]"

-- how a part is printed, by the numbers that lead to it
abbrev pub part_text : Part → ℕ → ℕ → ℕ → List ℕ
part_text Top m n h = codes "top"
part_text Problem m n h = codes "problem"
part_text Format m n h = codes "format"
part_text Switches m n h = codes "switches"
part_text Switch m n h = codes "switches[" ++ decimal m ++ codes "]"
part_text SwitchName m n h = codes "switches[" ++ decimal m ++ codes "].name"
part_text SwitchTable m n h = codes "switches[" ++ decimal m ++ codes "].table"
part_text Links m n h = codes "links"
part_text Link m n h = codes "links[" ++ decimal m ++ codes "]"
part_text LinkFrom m n h = codes "links[" ++ decimal m ++ codes "].from"
part_text LinkTo m n h = codes "links[" ++ decimal m ++ codes "].to"
part_text LinkCapacity m n h = codes "links[" ++ decimal m ++ codes "].capacity"
part_text Flows m n h = codes "flows"
part_text Flow m n h = codes "flows[" ++ decimal m ++ codes "]"
part_text FlowName m n h = codes "flows[" ++ decimal m ++ codes "].name"
part_text Tunnels m n h = codes "flows[" ++ decimal m ++ codes "].tunnels"
part_text Tunnel m n h = tunnel_text m n
part_text Path m n h = tunnel_text m n ++ codes ".path"
part_text PathName m n h = tunnel_text m n ++ codes ".path[" ++ decimal h ++ codes "]"
part_text Old m n h = tunnel_text m n ++ codes ".old"
part_text New m n h = tunnel_text m n ++ codes ".new"
part_text Width m n h = tunnel_text m n ++ codes ".width"
part_text PlanTop m n h = codes "plan"
part_text Scale m n h = codes "plan.scale"
part_text Stages m n h = codes "plan.stages"
part_text Stage m n h = stage_text m
part_text Rates m n h = stage_text m ++ codes ".rates"
part_text Rate m n h = stage_text m ++ codes ".rates[" ++ decimal n ++ codes "]"
part_text Installed m n h = installed_text m
part_text Mark m n h = installed_text m ++ codes "[" ++ decimal n ++ codes "]"
part_text ScriptTop m n h = codes "script"
part_text Event m n h = codes "script[" ++ decimal m ++ codes "]"
part_text LeastTop m n h = codes "least"
part_text LeastSteps m n h = codes "least.steps"
part_text LeastLink m n h = codes "least.link"
part_text LeastRows m n h = codes "least.rows"
part_text LeastRow m n h = codes "least.rows[" ++ decimal m ++ codes "]"

abbrev pub place_text : Place → List ℕ
place_text place = part_text place.part place.a place.b place.c
