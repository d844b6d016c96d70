use Rattle.std.proofs.Common.{◌≡◌, None}
use Rattle.plan_check.specs.First.{first_below}
use Rattle.scratch_plan.specs.Lacks.{lack_at}
use Rattle.scratch_plan.proofs.links.first_over.Given as goal

abbrev pub invariant-loop-l : goal.invariant-loop-l
invariant-loop-l l = first_below l.l (lack_at l.rule l.problem) ≡ None
