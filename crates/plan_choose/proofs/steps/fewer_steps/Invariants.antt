use Rattle.std.proofs.Common.{◌≡◌, None}
use Rattle.plan_check.specs.First.{first_below}
use Rattle.plan_choose.specs.Choice.{step_choice}
use Rattle.plan_choose.proofs.steps.fewer_steps.Given as goal

abbrev pub invariant-loop-q : goal.invariant-loop-q
invariant-loop-q l = first_below l.q (step_choice l.problem) ≡ None
