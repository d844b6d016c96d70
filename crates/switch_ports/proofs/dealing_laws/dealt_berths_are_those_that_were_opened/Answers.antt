use Rattle.std.proofs.Common.{◌≡◌, true}
use Rattle.switch_ports.proofs.Spread.{all_dealt, dealt_apart}
use Rattle.switch_ports.proofs.dealing_laws.dealt_berths_are_those_that_were_opened.Goals as goal

pub returns-clause-lent : goal.returns-clause-lent
returns-clause-lent g c = λ lent n berths each. all_dealt (λ b. lent b.switch ≡ true) n berths each

pub returns-clause-apart : goal.returns-clause-apart
returns-clause-apart g c = dealt_apart
