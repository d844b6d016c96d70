use Rattle.std.proofs.Common.{◌≡◌, ℕ, ◌+◌, ◌≤◌}
use Rattle.rollout_rules.specs.Operations.{changes_to, stand_after}
use Rattle.dependency_graph.proofs.changes.stand_behind.Given as goal

-- up to this stage there is at most one change more
abbrev pub invariant-loop-s : goal.invariant-loop-s
invariant-loop-s l = (j : ℕ) → l.from ≡ stand_after l.plan.problem l.plan.plan l.item j → changes_to l.plan.problem l.plan.plan l.item l.s ≤ j + 1
