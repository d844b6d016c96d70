use Rattle.std.proofs.Common.{◌≡◌, None}
use Rattle.plan_check.specs.First.{first_below}
use Rattle.retarget_plan.specs.Leaving.{flying_at}
use Rattle.retarget_plan.proofs.leaving.first_flying.Given as goal

abbrev pub invariant-loop-item : goal.invariant-loop-item
invariant-loop-item l = first_below l.item (flying_at l.graph.history) ≡ None
