use Rattle.std.proofs.Common.{ap, arith, length}
use Rattle.dependency_graph.proofs.Growing.{item_count-few}
use Rattle.dependency_graph.proofs.index.Index.item_count.Goals as goal

pub overflow_cast-result : goal.overflow_cast-result
overflow_cast-result c =
    omega (arith, c.self.invariant.items.count, item_count-few c.self.inside.plan.value.problem c.self.invariant.network, ap length c.as_slice.ensures)
