use Rattle.std.proofs.Common.{List, ℕ, subst}
use Rattle.text_commands.specs.Answers.{rollout_in}
use Rattle.text_commands.specs.Runs.{Gives}
use Rattle.swanroll_top.proofs.watching.plan_of.Goals as goal

pub returns-in-Ok : goal.returns-in-Ok
returns-in-Ok c = subst (λ (input : List ℕ). Gives c.rollout_of.result (rollout_in input)) c.in-Ok.ensures c.rollout_of.ensures
