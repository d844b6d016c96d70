use Rattle.std.proofs.Common.{◌≡◌}
use Rattle.rollout_rules.specs.Sums.{list_below}
use Rattle.fewest_plan.specs.Greedy.{rate_after}
use Rattle.fewest_plan.proofs.stepping.row.Given as goal

abbrev pub invariant-loop-t : goal.invariant-loop-t
invariant-loop-t l = l.row ≡ list_below l.t (rate_after l.problem l.scale l.shares)
