use Rattle.std.proofs.Common.{◌≡◌, take, false}
use Rattle.std.specs.List.{list_any}
use Rattle.scratch_plan.specs.Groups.{is_in}
use Rattle.scratch_plan.proofs.group.Group.is_empty.Given as goal

abbrev pub invariant-loop-t : goal.invariant-loop-t
invariant-loop-t l = list_any (is_in l.self) (take l.t l.problem.tunnels) ≡ false
