use Rattle.std.proofs.Common.{◌≡◌, slice_index}
use Rattle.fewest_plan.specs.Growth.{gains_in}
use Rattle.fewest_plan.proofs.growing.growing.Given as goal

abbrev pub invariant-loop-l : goal.invariant-loop-l
invariant-loop-l l = l.gains ≡ gains_in (slice_index l.growths) l.l
