use Rattle.std.proofs.Common.{length}
use Rattle.switch_ports.specs.Homes.{is_working_home}
use Rattle.switch_ports.proofs.Numbers.{passing_distinct}
use Rattle.switch_ports.proofs.dealing_laws.working_homes_are_distinct.Goals as goal

pub returns : goal.returns
returns c = λ p plan. passing_distinct (length p.switches) (is_working_home p plan)
