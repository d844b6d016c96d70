use Rattle.lossy_link.proofs.Keeping.{fresh_faithful}
use Rattle.lossy_link.proofs.faithful_port.FaithfulPort.new.Goals as goal

pub invariant_of-result : goal.invariant_of-result
invariant_of-result c = fresh_faithful _ _ _ c.new.ensures c.new-2.ensures c.new-3.ensures
