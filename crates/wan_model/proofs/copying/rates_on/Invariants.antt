use Rattle.std.proofs.Common.{◌≡◌, map, take}
use Rattle.wan_model.specs.Sides.{rate_on}
use Rattle.wan_model.proofs.copying.rates_on.Given as goal

abbrev pub invariant-loop-tunnel : goal.invariant-loop-tunnel
invariant-loop-tunnel l = l.rates ≡ map (rate_on l.side) (take l.tunnel l.problem.tunnels)
