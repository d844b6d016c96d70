use Rattle.std.proofs.Common.{◌≡◌}
use Rattle.rollout_rules.specs.Sums.{list_below}
use Rattle.fewest_plan.specs.Relief.{rank}
use Rattle.fewest_plan.proofs.relief.ranks.Given as goal

abbrev pub invariant-loop-f : goal.invariant-loop-f
invariant-loop-f l = l.row ≡ list_below l.f (rank l.before l.after)
