use Rattle.fenced_ports.proofs.Floors.{broken-stays}
use Rattle.fenced_ports.proofs.laws.behind_a_fault_nothing_is_read.Goals as goal

pub returns : goal.returns
returns c = broken-stays
