use Rattle.std.proofs.Common.{◌≡◌, ◌≤◌, true}
use Rattle.rollout_rules.specs.Sums.{all_below}
use Rattle.rollout_rules.specs.Operations.{changes_to}
use Rattle.dependency_graph.specs.Soundness.{had_needs_at}
use Rattle.dependency_graph.proofs.soundness.lacking_of.Given as goal

abbrev pub invariant-loop-stage : goal.invariant-loop-stage
invariant-loop-stage l = record {
  passed : all_below l.stage (had_needs_at l.plan l.progress l.what) ≡ true;
  before : l.before ≡ changes_to l.plan.problem l.plan.plan l.what l.stage;
  few : l.before ≤ l.stage;
}
