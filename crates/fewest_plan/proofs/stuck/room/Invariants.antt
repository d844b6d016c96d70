use Rattle.std.proofs.Common.{◌≡◌, ◌≤◌, ◌*◌, ◌^◌}
use Rattle.rollout_rules.specs.Sums.{sum_below}
use Rattle.fewest_plan.specs.Stuck.{room_on}
use Rattle.fewest_plan.proofs.stuck.room.Given as goal

abbrev pub invariant-loop-l : goal.invariant-loop-l
invariant-loop-l l = record {
  value : l.sum ≡ sum_below l.l (room_on l.problem l.marks);
  small : l.sum ≤ l.l * 2 ^ 64;
}
