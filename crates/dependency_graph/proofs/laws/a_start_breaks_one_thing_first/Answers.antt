use Rattle.dependency_graph.proofs.OneFault.{one-fault}
use Rattle.dependency_graph.proofs.laws.a_start_breaks_one_thing_first.Goals as goal

pub returns : goal.returns
returns c = one-fault
