use Rattle.std.proofs.Common.{◌≡◌, true}
use Rattle.rollout_rules.specs.Sums.{all_below}
use Rattle.fewest_plan.specs.Relief.{is_near}
use Rattle.fewest_plan.proofs.relief.is_fullest.Given as goal

abbrev pub invariant-loop-m : goal.invariant-loop-m
invariant-loop-m l = all_below l.m (is_near l.problem l.l) ≡ true
