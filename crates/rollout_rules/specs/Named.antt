-- Small networks with names, and plans on them, for the worked examples.
use Rattle.std.specs.Prelude.{ℕ, ◌+◌, Bool, true, false, List, [], ◌∷◌, ◌++◌, take, drop, Option, Some, None, codes, map, replicate}
use Rattle.rollout_rules.specs.Wan.{Switch, Link, Flow, Tunnel, Problem, Stage, Plan}

abbrev pub switch_named : List ℕ → ℕ → Switch
switch_named name table = record { name = name; table = table }

abbrev pub link_from : ℕ → ℕ → ℕ → Link
link_from from to capacity = record { from = from; to = to; capacity = capacity }

abbrev pub flow_named : List ℕ → ℕ → ℕ → Flow
flow_named name first tunnels = record { name = name; first = first; tunnels = tunnels }

-- a tunnel of a flow along switches and links, with its old and its new rate, and the same with a width
abbrev pub tunnel_along : ℕ → List ℕ → List ℕ → Option ℕ → Option ℕ → Tunnel
tunnel_along flow path links old new = record { flow = flow; path = path; links = links; width = 1; old = old; new = new }

abbrev pub of_width : ℕ → Tunnel → Tunnel
of_width width t = record t { width = width }

abbrev pub stage_with : List ℕ → List Bool → Stage
stage_with rates installed = record { rates = rates; installed = installed }

-- a plan with these rates, all n tunnels installed at each stage
abbrev pub all_installed : ℕ → ℕ → List (List ℕ) → Plan
all_installed n scale rows = record { scale = scale; stages = map (λ rates. stage_with rates (replicate n true)) rows }

-- a flow that leaves A B in part, for A C B
abbrev pub one : Problem
one = record {
  format = 1;
  switches = switch_named (codes "A") 8 ∷ switch_named (codes "B") 8 ∷ switch_named (codes "C") 8 ∷ [];
  links = link_from 0 1 10 ∷ link_from 0 2 10 ∷ link_from 2 1 10 ∷ [];
  flows = flow_named (codes "f") 0 2 ∷ [];
  tunnels = tunnel_along 0 (0 ∷ 1 ∷ []) (0 ∷ []) (Some 4) (Some 1) ∷ tunnel_along 0 (0 ∷ 2 ∷ 1 ∷ []) (1 ∷ 2 ∷ []) (Some 0) (Some 3) ∷ [];
}

-- two flows of rate r that change places over links of capacity c
abbrev pub swap : ℕ → ℕ → Problem
swap c r = record {
  format = 1;
  switches = switch_named (codes "A") 8 ∷ switch_named (codes "X") 8 ∷ switch_named (codes "Y") 8 ∷ switch_named (codes "B") 8 ∷ [];
  links = link_from 0 1 c ∷ link_from 1 3 c ∷ link_from 0 2 c ∷ link_from 2 3 c ∷ [];
  flows = flow_named (codes "f") 0 2 ∷ flow_named (codes "g") 2 2 ∷ [];
  tunnels = tunnel_along 0 (0 ∷ 1 ∷ 3 ∷ []) (0 ∷ 1 ∷ []) (Some r) (Some 0)
      ∷ tunnel_along 0 (0 ∷ 2 ∷ 3 ∷ []) (2 ∷ 3 ∷ []) (Some 0) (Some r)
      ∷ tunnel_along 1 (0 ∷ 1 ∷ 3 ∷ []) (0 ∷ 1 ∷ []) (Some 0) (Some r)
      ∷ tunnel_along 1 (0 ∷ 2 ∷ 3 ∷ []) (2 ∷ 3 ∷ []) (Some r) (Some 0) ∷ [];
}

-- two flows on one full link, of which one goes and one comes
abbrev pub pause : Problem
pause = record {
  format = 1;
  switches = switch_named (codes "A") 8 ∷ switch_named (codes "B") 8 ∷ [];
  links = link_from 0 1 2 ∷ [];
  flows = flow_named (codes "f") 0 1 ∷ flow_named (codes "g") 1 1 ∷ [];
  tunnels = tunnel_along 0 (0 ∷ 1 ∷ []) (0 ∷ []) (Some 2) (Some 0) ∷ tunnel_along 1 (0 ∷ 1 ∷ []) (0 ∷ []) (Some 0) (Some 2) ∷ [];
}

-- two flows on full links that change places by way of a third path
abbrev pub three : Problem
three = record {
  format = 1;
  switches = switch_named (codes "A") 8 ∷ switch_named (codes "X") 8 ∷ switch_named (codes "Y") 8 ∷ switch_named (codes "Z") 8 ∷ switch_named (codes "B") 8 ∷ [];
  links = link_from 0 1 2 ∷ link_from 1 4 2 ∷ link_from 0 2 2 ∷ link_from 2 4 2 ∷ link_from 0 3 2 ∷ link_from 3 4 2 ∷ [];
  flows = flow_named (codes "f") 0 3 ∷ flow_named (codes "g") 3 3 ∷ [];
  tunnels = tunnel_along 0 (0 ∷ 1 ∷ 4 ∷ []) (0 ∷ 1 ∷ []) (Some 2) (Some 0)
      ∷ tunnel_along 0 (0 ∷ 2 ∷ 4 ∷ []) (2 ∷ 3 ∷ []) (Some 0) (Some 2)
      ∷ tunnel_along 0 (0 ∷ 3 ∷ 4 ∷ []) (4 ∷ 5 ∷ []) (Some 0) (Some 0)
      ∷ tunnel_along 1 (0 ∷ 1 ∷ 4 ∷ []) (0 ∷ 1 ∷ []) (Some 0) (Some 2)
      ∷ tunnel_along 1 (0 ∷ 2 ∷ 4 ∷ []) (2 ∷ 3 ∷ []) (Some 2) (Some 0)
      ∷ tunnel_along 1 (0 ∷ 3 ∷ 4 ∷ []) (4 ∷ 5 ∷ []) (Some 0) (Some 0) ∷ [];
}

-- a flow whose new tunnel has room in the tables of A and B once an idle one, of this old rate, has left them
abbrev pub table_with : ℕ → Problem
table_with idle = record {
  format = 1;
  switches = switch_named (codes "A") 2 ∷ switch_named (codes "B") 2 ∷ switch_named (codes "X") 8 ∷ switch_named (codes "Y") 8 ∷ switch_named (codes "Z") 8 ∷ [];
  links = link_from 0 2 10 ∷ link_from 2 1 10 ∷ link_from 0 3 10 ∷ link_from 3 1 10 ∷ link_from 0 4 10 ∷ link_from 4 1 10 ∷ [];
  flows = flow_named (codes "f") 0 3 ∷ [];
  tunnels = tunnel_along 0 (0 ∷ 2 ∷ 1 ∷ []) (0 ∷ 1 ∷ []) (Some 4) (Some 2)
      ∷ tunnel_along 0 (0 ∷ 3 ∷ 1 ∷ []) (2 ∷ 3 ∷ []) (Some idle) None
      ∷ tunnel_along 0 (0 ∷ 4 ∷ 1 ∷ []) (4 ∷ 5 ∷ []) None (Some 2) ∷ [];
}

abbrev pub table_network : Problem
table_network = table_with 0

-- the same in format 2, where A and B hold 5 entries, the first two tunnels take 2 and 1, and the third one so many
abbrev pub wide_with : ℕ → Problem
wide_with third = record {
  format = 2;
  switches = switch_named (codes "A") 5 ∷ switch_named (codes "B") 5 ∷ switch_named (codes "X") 8 ∷ switch_named (codes "Y") 8 ∷ switch_named (codes "Z") 8 ∷ [];
  links = table_network.links;
  flows = table_network.flows;
  tunnels = of_width 2 (tunnel_along 0 (0 ∷ 2 ∷ 1 ∷ []) (0 ∷ 1 ∷ []) (Some 4) (Some 2))
      ∷ of_width 1 (tunnel_along 0 (0 ∷ 3 ∷ 1 ∷ []) (2 ∷ 3 ∷ []) (Some 0) None)
      ∷ of_width third (tunnel_along 0 (0 ∷ 4 ∷ 1 ∷ []) (4 ∷ 5 ∷ []) None (Some 2)) ∷ [];
}

abbrev pub wide_network : Problem
wide_network = wide_with 3

-- two flows that change places, and a third one beside them with links of its own
abbrev pub ahead : Problem
ahead = record {
  format = 1;
  switches = (swap 9 6).switches ++ switch_named (codes "C") 8 ∷ switch_named (codes "U") 8 ∷ switch_named (codes "V") 8 ∷ switch_named (codes "D") 8 ∷ [];
  links = (swap 9 6).links ++ link_from 4 5 9 ∷ link_from 5 7 9 ∷ link_from 4 6 9 ∷ link_from 6 7 9 ∷ [];
  flows = (swap 9 6).flows ++ flow_named (codes "h") 4 2 ∷ [];
  tunnels = (swap 9 6).tunnels
      ++ tunnel_along 2 (4 ∷ 5 ∷ 7 ∷ []) (4 ∷ 5 ∷ []) (Some 6) (Some 0)
      ∷ tunnel_along 2 (4 ∷ 6 ∷ 7 ∷ []) (6 ∷ 7 ∷ []) (Some 0) (Some 6) ∷ [];
}

-- a flow that takes the link L for a while, and a second one that moves there late
abbrev pub late : Problem
late = record {
  format = 1;
  switches = switch_named (codes "A") 8 ∷ switch_named (codes "B") 8 ∷ switch_named (codes "P") 8
      ∷ switch_named (codes "L") 8 ∷ switch_named (codes "M") 8 ∷ switch_named (codes "N") 8 ∷ [];
  links = link_from 0 2 2 ∷ link_from 2 1 2 ∷ link_from 0 3 2 ∷ link_from 3 1 2
      ∷ link_from 0 4 2 ∷ link_from 4 1 2 ∷ link_from 0 5 2 ∷ link_from 5 1 2 ∷ [];
  flows = flow_named (codes "f") 0 3 ∷ flow_named (codes "g") 3 2 ∷ [];
  tunnels = tunnel_along 0 (0 ∷ 2 ∷ 1 ∷ []) (0 ∷ 1 ∷ []) (Some 2) (Some 0)
      ∷ tunnel_along 0 (0 ∷ 3 ∷ 1 ∷ []) (2 ∷ 3 ∷ []) (Some 0) (Some 0)
      ∷ tunnel_along 0 (0 ∷ 4 ∷ 1 ∷ []) (4 ∷ 5 ∷ []) (Some 0) (Some 2)
      ∷ tunnel_along 1 (0 ∷ 5 ∷ 1 ∷ []) (6 ∷ 7 ∷ []) (Some 2) (Some 0)
      ∷ tunnel_along 1 (0 ∷ 3 ∷ 1 ∷ []) (2 ∷ 3 ∷ []) (Some 0) (Some 2) ∷ [];
}

-- a flow that moves from its first tunnel to the second, both over the link A B
abbrev pub branch : Problem
branch = record {
  format = 1;
  switches = switch_named (codes "A") 8 ∷ switch_named (codes "B") 8 ∷ switch_named (codes "C") 8 ∷ switch_named (codes "D") 8 ∷ [];
  links = link_from 0 1 8 ∷ link_from 1 2 8 ∷ link_from 1 3 8 ∷ link_from 3 2 8 ∷ [];
  flows = flow_named (codes "f") 0 2 ∷ [];
  tunnels = tunnel_along 0 (0 ∷ 1 ∷ 2 ∷ []) (0 ∷ 1 ∷ []) (Some 4) (Some 0) ∷ tunnel_along 0 (0 ∷ 1 ∷ 3 ∷ 2 ∷ []) (0 ∷ 2 ∷ 3 ∷ []) (Some 0) (Some 4) ∷ [];
}

-- a flow whose only tunnel is replaced by another one
abbrev pub replaced : Problem
replaced = record {
  format = 1;
  switches = one.switches;
  links = one.links;
  flows = one.flows;
  tunnels = tunnel_along 0 (0 ∷ 1 ∷ []) (0 ∷ []) (Some 4) None ∷ tunnel_along 0 (0 ∷ 2 ∷ 1 ∷ []) (1 ∷ 2 ∷ []) None (Some 4) ∷ [];
}

-- a flow whose two new tunnels find one free place in the tables of A and B
abbrev pub crowd : Problem
crowd = record {
  format = 1;
  switches = switch_named (codes "A") 3 ∷ switch_named (codes "B") 3 ∷ [];
  links = link_from 0 1 10 ∷ [];
  flows = flow_named (codes "f") 0 4 ∷ [];
  tunnels = tunnel_along 0 (0 ∷ 1 ∷ []) (0 ∷ []) (Some 4) (Some 2) ∷ tunnel_along 0 (0 ∷ 1 ∷ []) (0 ∷ []) (Some 0) None
      ∷ tunnel_along 0 (0 ∷ 1 ∷ []) (0 ∷ []) None (Some 1) ∷ tunnel_along 0 (0 ∷ 1 ∷ []) (0 ∷ []) None (Some 1) ∷ [];
}

-- a flow on one link of capacity 2, with these rates
abbrev pub pipe : ℕ → ℕ → Problem
pipe old new = record {
  format = 1;
  switches = pause.switches;
  links = pause.links;
  flows = flow_named (codes "f") 0 1 ∷ [];
  tunnels = tunnel_along 0 (0 ∷ 1 ∷ []) (0 ∷ []) (Some old) (Some new) ∷ [];
}

abbrev pub one_plan : Plan
one_plan = all_installed 2 1 ((4 ∷ 0 ∷ []) ∷ (1 ∷ 3 ∷ []) ∷ [])

-- each flow halfway at stage 1, in units of 1/2
abbrev pub halfway_plan : Plan
halfway_plan = all_installed 4 2 ((12 ∷ 0 ∷ 0 ∷ 12 ∷ []) ∷ (6 ∷ 6 ∷ 6 ∷ 6 ∷ []) ∷ (0 ∷ 12 ∷ 12 ∷ 0 ∷ []) ∷ [])

abbrev pub pause_plan : Plan
pause_plan = all_installed 2 1 ((2 ∷ 0 ∷ []) ∷ (0 ∷ 0 ∷ []) ∷ (0 ∷ 2 ∷ []) ∷ [])

abbrev pub three_plan : Plan
three_plan = all_installed 6 1 (
    (2 ∷ 0 ∷ 0 ∷ 0 ∷ 2 ∷ 0 ∷ []) ∷ (2 ∷ 0 ∷ 0 ∷ 0 ∷ 0 ∷ 2 ∷ [])
    ∷ (0 ∷ 2 ∷ 0 ∷ 0 ∷ 0 ∷ 2 ∷ []) ∷ (0 ∷ 2 ∷ 0 ∷ 2 ∷ 0 ∷ 0 ∷ []) ∷ [])

-- the idle tunnel goes, the new one comes, and then the flow moves
abbrev pub table_plan : Plan
table_plan = record {
  scale = 1;
  stages = stage_with (4 ∷ 0 ∷ 0 ∷ []) (true ∷ true ∷ false ∷ [])
      ∷ stage_with (4 ∷ 0 ∷ 0 ∷ []) (true ∷ false ∷ false ∷ [])
      ∷ stage_with (4 ∷ 0 ∷ 0 ∷ []) (true ∷ false ∷ true ∷ [])
      ∷ stage_with (2 ∷ 0 ∷ 2 ∷ []) (true ∷ false ∷ true ∷ []) ∷ [];
}

abbrev pub ahead_plan : Plan
ahead_plan = all_installed 6 2 ((12 ∷ 0 ∷ 0 ∷ 12 ∷ 12 ∷ 0 ∷ []) ∷ (6 ∷ 6 ∷ 6 ∷ 6 ∷ 6 ∷ 6 ∷ []) ∷ (0 ∷ 12 ∷ 12 ∷ 0 ∷ 0 ∷ 12 ∷ []) ∷ [])

abbrev pub late_plan : Plan
late_plan = all_installed 5 1 (
    (2 ∷ 0 ∷ 0 ∷ 2 ∷ 0 ∷ []) ∷ (0 ∷ 0 ∷ 2 ∷ 2 ∷ 0 ∷ []) ∷ (0 ∷ 2 ∷ 0 ∷ 2 ∷ 0 ∷ [])
    ∷ (0 ∷ 0 ∷ 2 ∷ 2 ∷ 0 ∷ []) ∷ (0 ∷ 0 ∷ 2 ∷ 0 ∷ 2 ∷ []) ∷ [])

-- the new tunnel comes, the flow moves, and the old tunnel goes
abbrev pub replaced_plan : Plan
replaced_plan = record {
  scale = 1;
  stages = stage_with (4 ∷ 0 ∷ []) (true ∷ false ∷ []) ∷ stage_with (4 ∷ 0 ∷ []) (true ∷ true ∷ [])
      ∷ stage_with (0 ∷ 4 ∷ []) (true ∷ true ∷ []) ∷ stage_with (0 ∷ 4 ∷ []) (false ∷ true ∷ []) ∷ [];
}

-- the idle tunnel goes, the two new ones come, and then the flow moves
abbrev pub crowd_plan : Plan
crowd_plan = record {
  scale = 1;
  stages = stage_with (4 ∷ 0 ∷ 0 ∷ 0 ∷ []) (true ∷ true ∷ false ∷ false ∷ []) ∷ stage_with (4 ∷ 0 ∷ 0 ∷ 0 ∷ []) (true ∷ false ∷ false ∷ false ∷ [])
      ∷ stage_with (4 ∷ 0 ∷ 0 ∷ 0 ∷ []) (true ∷ false ∷ true ∷ true ∷ []) ∷ stage_with (2 ∷ 0 ∷ 1 ∷ 1 ∷ []) (true ∷ false ∷ true ∷ true ∷ []) ∷ [];
}

-- a plan without one of its stages
abbrev pub without_stage : ℕ → Plan → Plan
without_stage s plan = record plan { stages = take s plan.stages ++ drop (s + 1) plan.stages }

-- a plan that carries 2 over table_network's third tunnel at stage 2 alone, and ends as it began
abbrev pub stay_plan : Plan
stay_plan = record {
  scale = 1;
  stages =
      stage_with (4 ∷ 0 ∷ 0 ∷ []) (true ∷ false ∷ false ∷ []) ∷ stage_with (4 ∷ 0 ∷ 0 ∷ []) (true ∷ false ∷ true ∷ [])
      ∷ stage_with (2 ∷ 0 ∷ 2 ∷ []) (true ∷ false ∷ true ∷ []) ∷ stage_with (4 ∷ 0 ∷ 0 ∷ []) (true ∷ false ∷ true ∷ []) ∷ [];
}
