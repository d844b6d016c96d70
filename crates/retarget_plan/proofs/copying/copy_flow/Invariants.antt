use Rattle.std.proofs.Common.{◌≡◌}
use Rattle.wan_model.specs.Fronts.{begun}
use Rattle.retarget_plan.specs.Left.{remade}
use Rattle.retarget_plan.proofs.copying.copy_flow.Given as goal

abbrev pub invariant-loop-j : goal.invariant-loop-j
invariant-loop-j l = l.copy ≡ begun (remade l.problem l.capacities l.old l.new) l.flow l.j
