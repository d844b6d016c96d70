use Rattle.std.proofs.Common.{◌≡◌, ◌++◌, take, drop, map}
use Rattle.lossy_link.specs.Traffic.{less_late}
use Rattle.lossy_link.proofs.line.wait_less.Given as goal

abbrev pub invariant-loop-w : goal.invariant-loop-w
invariant-loop-w l = l.w-items ≡ map less_late (take l.w-index l.initial.w-items) ++ drop l.w-index l.initial.w-items
