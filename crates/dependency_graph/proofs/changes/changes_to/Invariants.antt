use Rattle.std.proofs.Common.{◌≡◌, ◌≤◌}
use Rattle.rollout_rules.specs.Operations.{changes_to}
use Rattle.dependency_graph.proofs.changes.changes_to.Given as goal

abbrev pub invariant-loop-s : goal.invariant-loop-s
invariant-loop-s l = record {
  changes : l.changes ≡ changes_to l.plan.problem l.plan.plan l.item l.s;
  few : l.changes ≤ l.s;
}
