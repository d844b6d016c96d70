use Rattle.std.proofs.Common.{arith}
use Rattle.dependency_graph.proofs.progress.needs.entry_may_change.Goals as goal

pub overflow_cast-flow : goal.overflow_cast-flow
overflow_cast-flow c = omega (arith, c.flow_of-flow.ensures.inside, c.checked_plan_is_valid.ensures.network.flows.count)
