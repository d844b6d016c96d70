use Rattle.std.proofs.Common.{◌<◌, ◌∙◌, sym, arith}
use Rattle.rollout_rules.specs.Items.{item_count}
use Rattle.rollout_rules.proofs.Below.{all_below_stops}
use Rattle.rollback_plan.specs.Levels.{is_levelled_at}
use Rattle.rollback_plan.proofs.reaching.levelled.Goals as goal

pub returns-then-not-is_level : goal.returns-then-not-is_level
returns-then-not-is_level c =
    let g = c.args.graph.now in
    let n = c.loop-item.item in
    let inside : n < item_count g.rollout.problem = omega (arith, c.item_count-item-end.ensures, c.loop-item-test.true) in
    sym (all_below_stops (is_levelled_at g.rollout.problem g.rollout.plan g.history c.args.stage) (item_count g.rollout.problem) n inside (sym c.is_level.ensures ∙ c.if-not-is_level.true))
