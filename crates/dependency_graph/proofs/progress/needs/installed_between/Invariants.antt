use Rattle.std.proofs.Common.{◌≤◌}
use Rattle.rollout_rules.specs.Needs.{installed_since}
use Rattle.dependency_graph.proofs.progress.needs.installed_between.Given as goal

abbrev pub invariant-loop-u : goal.invariant-loop-u
invariant-loop-u l = installed_since l.plan.plan l.t l.u ≤ l.from
