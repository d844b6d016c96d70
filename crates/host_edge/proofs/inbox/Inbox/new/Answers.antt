use Rattle.std.proofs.Common.{arith}
use Rattle.host_edge.proofs.Sorting.{cut_none}
use Rattle.host_edge.proofs.inbox.Inbox.new.Goals as goal

pub invariant_of-result : goal.invariant_of-result
invariant_of-result c = (omega arith, omega arith, omega arith, cut_none)
