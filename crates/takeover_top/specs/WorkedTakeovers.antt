-- Ports and starts of the worked examples.
use Rattle.std.specs.Prelude.{ℕ, List, [], ◌∷◌, Some}
use Rattle.rollout_rules.specs.History.{no_start}
use Rattle.wan_edge.specs.Ports.{PortTrace}
use Rattle.wan_edge.specs.Switches.{Holdings}
use Rattle.switch_laws.specs.Worked.{holding_with, two_flows}
use Rattle.swanroll_top.specs.Worked.{never_used}

-- nothing is settled of any item
abbrev pub none_settled : List ℕ
none_settled = no_start two_flows.problem

-- what operation 1 of migration 5 left of each item
abbrev pub left_by_fifth : Holdings
left_by_fifth = λ item. holding_with 5 1 (0 ∷ [])

-- a prompt port that was never used, whose switch holds it
abbrev pub ahead : PortTrace
ahead = record never_used { held = Some left_by_fifth; start = left_by_fifth }
