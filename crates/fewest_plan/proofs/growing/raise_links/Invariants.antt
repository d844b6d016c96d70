use Rattle.std.proofs.Common.{◌*◌, slice_index, ◌==◌, if◌then◌else◌}
use Rattle.rollout_rules.specs.Sums.{sum_below}
use Rattle.plan_check.specs.Parts.{GrownBy}
use Rattle.fewest_plan.proofs.growing.raise_links.Given as goal

abbrev pub invariant-loop-link : goal.invariant-loop-link
invariant-loop-link l =
    GrownBy l.initial.sums l.sums (λ k. sum_below l.link-index (λ h. if slice_index l.row h == k then l.amount else 0)) (l.link-index * l.amount)
