use Rattle.std.proofs.Common.{◌≡◌}
use Rattle.rollout_rules.specs.Sums.{list_below}
use Rattle.fewest_plan.specs.Marked.{borne}
use Rattle.fewest_plan.proofs.relief.borne_by_all.Given as goal

abbrev pub invariant-loop-f : goal.invariant-loop-f
invariant-loop-f l = l.row ≡ list_below l.f (borne l.problem l.marks l.side)
