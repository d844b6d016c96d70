use Rattle.std.proofs.Common.{◌*◌, ◌^◌, ◌==◌, if◌then◌else◌}
use Rattle.rollout_rules.specs.Sums.{sum_below}
use Rattle.plan_check.specs.Parts.{GrownBy}
use Rattle.fewest_plan.specs.Growth.{gain_at}
use Rattle.fewest_plan.proofs.reaching.add_gains.Given as goal

abbrev pub invariant-loop-i : goal.invariant-loop-i
invariant-loop-i l =
    GrownBy l.initial.tops l.tops (λ k. sum_below l.i (λ i. if (gain_at l.gains i).link == k then (gain_at l.gains i).growth * l.far else 0)) (l.i * 2 ^ 64)
