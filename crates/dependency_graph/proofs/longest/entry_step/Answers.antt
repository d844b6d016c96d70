use Rattle.std.proofs.Common.{arith}
use Rattle.dependency_graph.proofs.longest.entry_step.Goals as goal

pub overflow_cast-item : goal.overflow_cast-item
overflow_cast-item c = omega (arith, c.requires.tunnel, c.checked_plan_is_valid.ensures.network.few)
