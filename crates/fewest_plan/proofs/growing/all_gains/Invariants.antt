use Rattle.std.proofs.Common.{◌≡◌}
use Rattle.rollout_rules.specs.Sums.{list_below}
use Rattle.fewest_plan.specs.Growth.{gains_of}
use Rattle.fewest_plan.proofs.growing.all_gains.Given as goal

abbrev pub invariant-loop-f : goal.invariant-loop-f
invariant-loop-f l = l.gains ≡ list_below l.f (gains_of l.problem)
