use Rattle.std.proofs.Common.{arith}
use Rattle.dependency_graph.proofs.soundness.spot_at.Goals as goal

pub overflow_cast-link : goal.overflow_cast-link
overflow_cast-link c = omega (arith, c.requires, c.checked_plan_is_valid.ensures.network.links.count, c.checked_plan_is_valid.ensures.network.switches.count)

pub overflow_cast-table : goal.overflow_cast-table
overflow_cast-table c = omega (arith, c.requires, c.checked_plan_is_valid.ensures.network.links.count, c.checked_plan_is_valid.ensures.network.switches.count)
