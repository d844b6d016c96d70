use Rattle.std.proofs.Common.{slice_index, ◌==◌, if◌then◌else◌}
use Rattle.rollout_rules.specs.Sums.{sum_below}
use Rattle.plan_check.specs.Parts.{GrownBy}
use Rattle.case_gen.proofs.needs.count_along.Given as goal

abbrev pub invariant-loop-switch : goal.invariant-loop-switch
invariant-loop-switch l =
    GrownBy l.initial.tables l.tables (λ w. sum_below l.switch-index (λ h. if slice_index l.path h == w then 1 else 0)) l.switch-index
