use Rattle.std.proofs.Common.{◌≡◌}
use Rattle.rollout_rules.specs.Sums.{list_below}
use Rattle.fewest_plan.specs.Stuck.{weighs}
use Rattle.fewest_plan.proofs.stuck.weigh_links.Given as goal

abbrev pub invariant-loop-k : goal.invariant-loop-k
invariant-loop-k l = l.marks ≡ list_below l.k (weighs l.weight l.problem l.l)
