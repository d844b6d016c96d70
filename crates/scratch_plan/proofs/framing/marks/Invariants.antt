use Rattle.std.proofs.Common.{◌≡◌, take, map}
use Rattle.scratch_plan.specs.Groups.{is_in}
use Rattle.scratch_plan.proofs.framing.marks.Given as goal

abbrev pub invariant-loop-t : goal.invariant-loop-t
invariant-loop-t l = l.marks ≡ map (is_in l.installed) (take l.t l.problem.tunnels)
