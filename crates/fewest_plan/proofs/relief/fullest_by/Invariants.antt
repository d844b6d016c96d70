use Rattle.std.proofs.Common.{◌≡◌}
use Rattle.rollout_rules.specs.Sums.{list_below}
use Rattle.fewest_plan.specs.Relief.{is_fullest}
use Rattle.fewest_plan.proofs.relief.fullest_by.Given as goal

abbrev pub invariant-loop-l : goal.invariant-loop-l
invariant-loop-l l = l.marks ≡ list_below l.l (is_fullest l.problem)
