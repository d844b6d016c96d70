use Rattle.std.proofs.Common.{◌≡◌}
use Rattle.std.specs.Prelude.{unwrap_or}
use Rattle.rollout_rules.specs.Sums.{list_below}
use Rattle.rollout_rules.specs.Wan.{tunnel_at}
use Rattle.wan_model.specs.Sides.{rate_on}
use Rattle.plan_check.proofs.split_loads.loads_on.Given as goal

abbrev pub invariant-loop-t : goal.invariant-loop-t
invariant-loop-t l = l.rates ≡ list_below l.t (λ t. unwrap_or (rate_on l.side (tunnel_at l.problem t)) 0)
