-- Words of the worked examples: commands for item 0 of migration 0, with scale 1 and one rate 0.
use Rattle.std.specs.Prelude.{ℕ, List, [], ◌∷◌, Option, Some, None}
use Rattle.wan_edge.specs.Frames.{AnswerFrame, CommandFrame}
use Rattle.fenced_agent.specs.Frames.{FlooredAnswer, TermedCommand}

abbrev pub first_command : ℕ → CommandFrame
first_command number = (0, record { item = 0; number = number; scale = 1; content = 0 ∷ [] })

abbrev pub first_answer : ℕ → AnswerFrame
first_answer held = (0, record { item = 0; held = held })

-- a command that asks what is held, and changes nothing
abbrev pub probe : CommandFrame
probe = first_command 0

-- a command with a term or none, and an answer with a floor or none
abbrev pub termed : Option ℕ → CommandFrame → TermedCommand
termed term c = record { term = term; command = c }

abbrev pub floored : Option ℕ → AnswerFrame → FlooredAnswer
floored floor a = record { floor = floor; answer = a }

-- a probe of term 2, a command without a term, one of term 2, and a late one of term 1
abbrev pub four_commands : List TermedCommand
four_commands = termed (Some 2) probe ∷ termed None (first_command 1) ∷ termed (Some 2) (first_command 1) ∷ termed (Some 1) (first_command 2) ∷ []
