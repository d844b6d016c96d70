use Rattle.std.proofs.Common.{ap, arith}
use Rattle.rollout_rules.specs.Items.{item_count}
use Rattle.dependency_graph.proofs.Growing.{item_count-few}
use Rattle.dependency_graph.proofs.progress.op_total.Goals as goal

pub overflow_add-total : goal.overflow_add-total
overflow_add-total c =
    omega (arith, c.loop-item.invariant.small, c.few_operations-total.ensures.few, c.item_count-item-end.ensures, c.loop-item-test.true, ap (λ q. item_count q.problem) c.requires, item_count-few c.args.plan.now.problem c.checked_plan_is_valid.ensures.network)
