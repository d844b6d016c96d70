-- The text of a plan with what shows that fewer rate steps are impossible.
use Rattle.std.specs.Prelude.{ℕ, List}
use Rattle.text_commands.specs.Answers.{shown_document}
use Rattle.text_commands.specs.declared.shown.ShownPlan.{ShownPlan}

abbrev pub plan_shown : ShownPlan → List ℕ
plan_shown s = shown_document s.plan s.claim
