use Rattle.std.proofs.Common.{◌≡◌}
use Rattle.wan_model.specs.Fronts.{linked}
use Rattle.retarget_plan.specs.Left.{with_capacities}
use Rattle.retarget_plan.proofs.copying.copy_links.Given as goal

abbrev pub invariant-loop-number : goal.invariant-loop-number
invariant-loop-number l = l.copy ≡ linked (with_capacities l.problem l.capacities) l.number
