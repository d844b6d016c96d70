use Rattle.std.proofs.Common.{◌≡◌, ℕ, ◌<◌, ◌≤◌}
use Rattle.rollout_rules.specs.Sums.{list_below}
use Rattle.rollout_rules.specs.declared.limits.TheConstants.{LARGEST_CAPACITY}
use Rattle.case_gen.specs.Cases.{capacity_for}
use Rattle.case_gen.proofs.needs.capacities_for.Given as goal

abbrev pub invariant-loop-l : goal.invariant-loop-l
invariant-loop-l l =
    (l.capacities ≡ list_below l.l (capacity_for l.k l.problem)) × ((j : ℕ) → j < l.l → capacity_for l.k l.problem j ≤ LARGEST_CAPACITY)
