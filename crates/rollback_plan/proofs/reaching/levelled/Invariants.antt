use Rattle.std.proofs.Common.{◌≡◌, true}
use Rattle.rollout_rules.specs.Sums.{all_below}
use Rattle.rollback_plan.specs.Levels.{is_levelled_at}
use Rattle.rollback_plan.proofs.reaching.levelled.Given as goal

abbrev pub invariant-loop-item : goal.invariant-loop-item
invariant-loop-item l = all_below l.item (is_levelled_at l.graph.rollout.problem l.graph.rollout.plan l.graph.history l.stage) ≡ true
