use Rattle.lossy_link.proofs.Sending.{fresh_taken}
use Rattle.lossy_link.proofs.script_port.ScriptPort.new.Goals as goal

pub invariant_of-result : goal.invariant_of-result
invariant_of-result c = record { taken = fresh_taken c.new.result c.new.ensures; honest = c.new-2.ensures.honest }
