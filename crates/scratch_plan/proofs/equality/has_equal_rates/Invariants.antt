use Rattle.std.proofs.Common.{◌≡◌, true, ◌==◌}
use Rattle.rollout_rules.specs.Sums.{all_below}
use Rattle.rollout_rules.specs.Wan.{tunnel_at, old_rate, new_rate}
use Rattle.scratch_plan.proofs.equality.has_equal_rates.Given as goal

abbrev pub invariant-loop-t : goal.invariant-loop-t
invariant-loop-t l = all_below l.t (λ t. old_rate (tunnel_at l.problem t) == new_rate (tunnel_at l.problem t)) ≡ true
