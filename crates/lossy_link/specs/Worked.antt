-- The small cases of the worked examples.
use Rattle.std.specs.Prelude.{[], ◌∷◌}
use Rattle.wan_edge.specs.Frames.{AnswerFrame, CommandFrame}
use Rattle.lossy_link.specs.declared.fate.Fate.{Fate}

-- operation 1 of item 3 in migration 7, which brings two rates
abbrev pub first : CommandFrame
first = (7, record { item = 3; number = 1; scale = 2; content = 6 ∷ 6 ∷ [] })

-- that item 3 holds operation 1 of migration 7
abbrev pub first_held : AnswerFrame
first_held = (7, record { item = 3; held = 1 })

-- a command is lost
abbrev pub lost : Fate
lost = record { times = 0; answers = 1; late = 0 }

-- a command comes twice, and its answer twice, a hear late
abbrev pub twice_late : Fate
twice_late = record { times = 2; answers = 2; late = 1 }
