use Rattle.std.proofs.Common.{◌≡◌, take, map}
use Rattle.scratch_plan.specs.Scratch.{blended}
use Rattle.scratch_plan.proofs.blending.blended_row.Given as goal

abbrev pub invariant-loop-t : goal.invariant-loop-t
invariant-loop-t l = l.row ≡ map (blended l.n l.a) (take l.t l.problem.tunnels)
