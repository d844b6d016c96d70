-- The answers that earlier rounds have heard.
use Rattle.std.specs.Prelude.{List, [], ◌++◌}
use Rattle.rollout_rules.specs.declared.op.Op.{Op}
use Rattle.rollout_book.specs.Aliens.{told_by}
use Rattle.sim_run.specs.declared.earlier.Earlier.{Earlier, Nothing, Also'}

abbrev pub answers_in : Earlier → List Op
answers_in Nothing = []
answers_in (Also' marker before answers) = answers_in before ++ told_by answers.value.items
