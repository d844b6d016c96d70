use Rattle.lossy_link.proofs.Sending.{fresh_taken}
use Rattle.lossy_link.proofs.alien_port.AlienPort.new.Goals as goal

pub invariant_of-result : goal.invariant_of-result
invariant_of-result c = fresh_taken c.new.result c.new.ensures
