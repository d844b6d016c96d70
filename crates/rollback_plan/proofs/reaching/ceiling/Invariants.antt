use Rattle.std.proofs.Common.{◌≡◌}
use Rattle.rollout_rules.specs.Release.{most_below}
use Rattle.rollback_plan.specs.Levels.{leads_to}
use Rattle.rollback_plan.proofs.reaching.ceiling.Given as goal

abbrev pub invariant-loop-item : goal.invariant-loop-item
invariant-loop-item l = l.most ≡ most_below l.item (leads_to l.graph.rollout.problem l.graph.rollout.plan l.graph.history)
