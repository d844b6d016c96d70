-- What a switch holds of each item, and what it makes of commands: the agent rule, command by command.
use Rattle.std.specs.Prelude.{ℕ, ◌==◌, List, [], ◌∷◌, if◌then◌else◌}
use Rattle.rollout_rules.specs.Agent.{Holding, held_after, nothing_held, pair_of}
use Rattle.rollout_rules.specs.declared.held.Held.{Held}
use Rattle.wan_edge.specs.Frames.{AnswerFrame, CommandFrame}

-- the pair of a migration and a number that a command asks for, and that an answer gives
abbrev pub pair_asked : CommandFrame → Held
pair_asked c = pair_of c.0 c.1.number

abbrev pub pair_given : AnswerFrame → Held
pair_given a = pair_of a.0 a.1.held

-- what is held of each item
abbrev pub Holdings : Type 0
Holdings = ℕ → Holding

abbrev pub holding_nothing : Holdings
holding_nothing = λ item. nothing_held

-- after a command, of its item, the agent rule says what is held; of any other item the same is
abbrev pub after_command : Holdings → CommandFrame → Holdings
after_command holdings c = λ item. if item == c.1.item then held_after (holdings item) (pair_asked c) c.1.content else holdings item

-- after commands, one after the other
abbrev pub after_commands : Holdings → List CommandFrame → Holdings
after_commands holdings [] = holdings
after_commands holdings (c ∷ cs) = after_commands (after_command holdings c) cs

-- the answer that says of an item that this pair is held
abbrev pub answer_of : ℕ → Held → AnswerFrame
answer_of item held = (held.migration, record { item = item; held = held.number })

-- the answer to a command: its item, and the pair held after it
abbrev pub answer_to : Holdings → CommandFrame → AnswerFrame
answer_to holdings c = answer_of c.1.item (after_command holdings c c.1.item).held

-- the answers to commands, each by what is held when it comes
abbrev pub answers_to : Holdings → List CommandFrame → List AnswerFrame
answers_to holdings [] = []
answers_to holdings (c ∷ cs) = answer_to holdings c ∷ answers_to (after_command holdings c) cs
