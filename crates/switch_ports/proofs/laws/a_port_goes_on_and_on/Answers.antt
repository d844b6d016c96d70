use Rattle.switch_ports.proofs.Stories.{goes_on_on}
use Rattle.switch_ports.proofs.laws.a_port_goes_on_and_on.Goals as goal

pub returns : goal.returns
returns c = goes_on_on
