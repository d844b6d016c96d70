use Rattle.std.proofs.Common.{◌*◌, slice_index, ◌==◌, if◌then◌else◌}
use Rattle.rollout_rules.specs.Sums.{sum_below}
use Rattle.plan_check.specs.Parts.{GrownBy}
use Rattle.plan_texts.proofs.sums.add_along.Given as goal

abbrev pub invariant-loop-number : goal.invariant-loop-number
invariant-loop-number l =
    GrownBy l.initial.sums l.sums (λ k. sum_below l.number-index (λ h. if slice_index l.row h == k then l.amount else 0)) (l.number-index * l.amount)
