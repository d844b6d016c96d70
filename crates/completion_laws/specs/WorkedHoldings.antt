-- Words of the worked examples: the second operation of the first flow of `switch_laws`, and a switch that is at its start.
use Rattle.std.specs.Prelude.{List, [], ◌∷◌}
use Rattle.rollout_rules.specs.Worked.{op_of}
use Rattle.wan_edge.specs.Frames.{Command}
use Rattle.wan_edge.specs.Switches.{Holdings}
use Rattle.rollout_book.specs.Commands.{command_of}
use Rattle.switch_laws.specs.Worked.{first_command, holding_with, two_flows}

abbrev pub second_command : Command
second_command = command_of two_flows (op_of 0 2)

-- of each item the pair (4, 0)
abbrev pub at_start : Holdings
at_start = λ item. holding_with 4 0 (2 ∷ 0 ∷ 0 ∷ [])

-- both commands of the flow, the second one ahead
abbrev pub second_ahead : List Command
second_ahead = second_command ∷ first_command ∷ []
