use Rattle.std.proofs.Common.{◌≡◌}
use Rattle.wan_model.specs.Fronts.{begun}
use Rattle.wan_model.specs.Rates.{with_rates}
use Rattle.wan_model.proofs.copying.copy_flow.Given as goal

abbrev pub invariant-loop-j : goal.invariant-loop-j
invariant-loop-j l = l.copy ≡ begun (with_rates l.problem l.old l.new) l.flow l.j
