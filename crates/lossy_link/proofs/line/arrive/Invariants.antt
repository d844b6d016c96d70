use Rattle.std.proofs.Common.{◌≡◌, take}
use Rattle.lossy_link.specs.Traffic.{arriving}
use Rattle.lossy_link.specs.WayBack.{with_due}
use Rattle.lossy_link.proofs.line.arrive.Given as goal

abbrev pub invariant-loop-w : goal.invariant-loop-w
invariant-loop-w l = l.back ≡ with_due l.initial.back (arriving (take l.w-index l.waiting))
