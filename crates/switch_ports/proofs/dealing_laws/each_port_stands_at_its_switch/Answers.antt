use Rattle.switch_ports.proofs.Spread.{each_stands, others_stand}
use Rattle.switch_ports.proofs.dealing_laws.each_port_stands_at_its_switch.Goals as goal

pub returns-clause-own : goal.returns-clause-own
returns-clause-own g c = each_stands

pub returns-clause-others : goal.returns-clause-others
returns-clause-others g c = others_stand
