use Rattle.std.proofs.Common.{◌≤◌}
use Rattle.rollout_rules.specs.Needs.{idle_since}
use Rattle.dependency_graph.proofs.progress.needs.idle_between.Given as goal

abbrev pub invariant-loop-u : goal.invariant-loop-u
invariant-loop-u l = idle_since l.plan.plan l.t l.u ≤ l.from
