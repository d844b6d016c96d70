use Rattle.std.proofs.Common.{◌≡◌}
use Rattle.wan_model.specs.Fronts.{flowed}
use Rattle.wan_model.specs.Rates.{with_rates}
use Rattle.wan_model.proofs.copying.with_rates.Given as goal

abbrev pub invariant-loop-flow : goal.invariant-loop-flow
invariant-loop-flow l = l.copy ≡ flowed (with_rates l.problem l.old l.new) l.flow
