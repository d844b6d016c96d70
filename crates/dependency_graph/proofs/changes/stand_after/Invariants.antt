use Rattle.std.proofs.Common.{◌≡◌, ◌≤◌, nat_le}
use Rattle.rollout_rules.specs.Sums.{last_to}
use Rattle.rollout_rules.specs.Operations.{changes_to}
use Rattle.dependency_graph.proofs.changes.stand_after.Given as goal

abbrev pub invariant-loop-s : goal.invariant-loop-s
invariant-loop-s l = record {
  changes : l.changes ≡ changes_to l.plan.problem l.plan.plan l.item l.s;
  few : l.changes ≤ l.s;
  stand : l.stand ≡ last_to l.s (λ u. nat_le (changes_to l.plan.problem l.plan.plan l.item u) l.settled);
}
