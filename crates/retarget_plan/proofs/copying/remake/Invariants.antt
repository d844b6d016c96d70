use Rattle.std.proofs.Common.{◌≡◌}
use Rattle.wan_model.specs.Fronts.{flowed}
use Rattle.retarget_plan.specs.Left.{remade}
use Rattle.retarget_plan.proofs.copying.remake.Given as goal

abbrev pub invariant-loop-flow : goal.invariant-loop-flow
invariant-loop-flow l = l.copy ≡ flowed (remade l.problem l.capacities l.old l.new) l.flow
