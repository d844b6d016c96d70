use Rattle.std.proofs.Common.{◌≡◌}
use Rattle.wan_model.specs.Fronts.{switched}
use Rattle.retarget_plan.proofs.copying.copy_switches.Given as goal

abbrev pub invariant-loop-switch : goal.invariant-loop-switch
invariant-loop-switch l = l.copy ≡ switched l.problem l.switch
