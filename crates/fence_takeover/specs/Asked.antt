-- The questions of a takeover, with the term in front of each.
use Rattle.std.specs.Prelude.{ℕ, List, map, Some}
use Rattle.fenced_agent.specs.Frames.{TermedCommand}
use Rattle.held_service.specs.Questions.{question}

abbrev pub termed_question : ℕ → ℕ → ℕ → TermedCommand
termed_question term migration item = record { term = Some term; command = question migration item }

abbrev pub termed_questions : ℕ → ℕ → List ℕ → List TermedCommand
termed_questions term migration items = map (termed_question term migration) items
