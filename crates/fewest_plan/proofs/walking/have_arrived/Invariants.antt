use Rattle.std.proofs.Common.{◌≡◌, true, ◌==◌, slice_index}
use Rattle.rollout_rules.specs.Sums.{all_below}
use Rattle.fewest_plan.proofs.walking.have_arrived.Given as goal

abbrev pub invariant-loop-f : goal.invariant-loop-f
invariant-loop-f l = all_below l.f (λ f. slice_index l.shares f == l.scale) ≡ true
