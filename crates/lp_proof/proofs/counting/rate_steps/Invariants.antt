use Rattle.std.proofs.Common.{◌≡◌, ◌≤◌}
use Rattle.lp_proof.specs.RateSteps.{rate_steps_to}
use Rattle.lp_proof.proofs.counting.rate_steps.Given as goal

abbrev pub invariant-loop-s : goal.invariant-loop-s
invariant-loop-s l = (l.steps ≡ rate_steps_to l.plan.problem l.plan.plan l.s) × (l.steps ≤ l.s)
