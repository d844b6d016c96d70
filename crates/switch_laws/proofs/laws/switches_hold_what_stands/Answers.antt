use Rattle.switch_laws.proofs.Stands.{held_goes_on, held_stands}
use Rattle.switch_laws.proofs.laws.switches_hold_what_stands.Goals as goal

pub returns-clause-held : goal.returns-clause-held
returns-clause-held c = held_stands

pub returns-clause-since : goal.returns-clause-since
returns-clause-since c = held_goes_on
