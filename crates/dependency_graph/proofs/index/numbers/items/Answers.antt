use Rattle.std.proofs.Common.{subst}
use Rattle.rollout_rules.specs.Network.{IsNetwork}
use Rattle.dependency_graph.proofs.index.numbers.items.Goals as goal

pub returns-clause-network : goal.returns-clause-network
returns-clause-network c = subst IsNetwork c.problem.ensures c.tunnels-t-end.ensures.network
