use Rattle.switch_ports.proofs.Spread.{apart_alike, lent_alike}
use Rattle.switch_ports.proofs.dealing_laws.ports_that_moved_are_given_back_alike.Goals as goal

pub returns-clause-apart : goal.returns-clause-apart
returns-clause-apart g c = apart_alike

pub returns-clause-lent : goal.returns-clause-lent
returns-clause-lent g c = lent_alike
