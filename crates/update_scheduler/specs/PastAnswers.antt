-- The answers that were heard.
use Rattle.std.specs.Prelude.{List, [], ◌∷◌, ◌++◌}
use Rattle.rollout_rules.specs.declared.op.Op.{Op}
use Rattle.update_scheduler.specs.declared.past_answers.PastAnswers.{PastAnswers, Nothing, Also'}

abbrev pub answers_in : PastAnswers → List Op
answers_in Nothing = []
answers_in (Also' marker before answer) = answers_in before ++ answer.value ∷ []
