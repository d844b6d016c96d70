use Rattle.std.proofs.Common.{◌≡◌, None}
use Rattle.plan_check.specs.First.{first_below, provided}
use Rattle.fewest_plan.specs.Relief.{has_rank}
use Rattle.fewest_plan.proofs.relief.of_rank.Given as goal

abbrev pub invariant-loop-f : goal.invariant-loop-f
invariant-loop-f l = first_below l.f (λ f. provided (has_rank l.row l.i f) f) ≡ None
