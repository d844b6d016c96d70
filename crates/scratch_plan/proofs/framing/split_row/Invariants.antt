use Rattle.std.proofs.Common.{◌≡◌, ◌*◌, take, map, unwrap_or}
use Rattle.wan_model.specs.Sides.{rate_on}
use Rattle.scratch_plan.proofs.framing.split_row.Given as goal

abbrev pub invariant-loop-t : goal.invariant-loop-t
invariant-loop-t l = l.row ≡ map (λ t. l.scale * unwrap_or (rate_on l.side t) 0) (take l.t l.problem.tunnels)
