use Rattle.std.proofs.Common.{◌≡◌, None}
use Rattle.plan_check.specs.First.{first_below, provided}
use Rattle.fewest_plan.specs.Stuck.{is_stuck}
use Rattle.fewest_plan.proofs.stuck.first_stuck.Given as goal

abbrev pub invariant-loop-l : goal.invariant-loop-l
invariant-loop-l l = first_below l.l (λ k. provided (is_stuck l.problem k) k) ≡ None
