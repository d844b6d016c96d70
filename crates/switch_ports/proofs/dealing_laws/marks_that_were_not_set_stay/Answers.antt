use Rattle.std.proofs.Common.{false}
use Rattle.switch_ports.proofs.Places.{marked_same}
use Rattle.switch_ports.proofs.dealing_laws.marks_that_were_not_set_stay.Goals as goal

pub returns : goal.returns
returns c = λ marks ns are. marked_same marks ns false are
