-- The text of what a command answers.
use Rattle.std.specs.Prelude.{ℕ, List, Option, Some, None, Result, Ok, Err}
use Rattle.text_commands.specs.Answers.{explanation_of, loads_of, rollout_text}
use Rattle.sim_run.specs.declared.draft.DrawnScript.{DrawnScript}
use Rattle.text_commands.specs.Drawn.{script_drawn}
use Rattle.text_commands.specs.Shown.{plan_shown}
use Rattle.text_commands.specs.declared.answer.Answer.{Answer}
use Rattle.text_commands.specs.declared.answer.Answer.TheVariants.{Made, Document, Loads, Explained, Shown, Rehearsed}
use Rattle.text_commands.specs.declared.command_end.CommandEnd.{CommandEnd}

abbrev pub text_in : Answer → List ℕ
text_in (Made text) = text
text_in (Document rollout) = rollout_text rollout
text_in (Loads rollout) = loads_of rollout
text_in (Explained rollout) = explanation_of rollout
text_in (Shown shown) = plan_shown shown
text_in (Rehearsed drawn) = script_drawn drawn

-- the script that was drawn, where one was
abbrev pub drawn_in : Answer → Option DrawnScript
drawn_in (Made text) = None
drawn_in (Document rollout) = None
drawn_in (Loads rollout) = None
drawn_in (Explained rollout) = None
drawn_in (Shown shown) = None
drawn_in (Rehearsed drawn) = Some drawn

-- the text of an answer, or the ending without one
abbrev pub told : Result Answer CommandEnd → Result (List ℕ) CommandEnd
told (Ok answer) = Ok (text_in answer)
told (Err ending) = Err ending
