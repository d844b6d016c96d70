use Rattle.std.proofs.Common.{◌≡◌, true}
use Rattle.rollout_rules.specs.Sums.{all_below}
use Rattle.fewest_plan.specs.Stuck.{rests_at}
use Rattle.fewest_plan.proofs.stuck.rests.Given as goal

abbrev pub invariant-loop-t : goal.invariant-loop-t
invariant-loop-t l = all_below l.t (rests_at l.problem l.l) ≡ true
