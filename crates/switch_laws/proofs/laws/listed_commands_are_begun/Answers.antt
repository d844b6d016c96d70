use Rattle.switch_laws.proofs.Listed.{begun_stays, listed_are_begun}
use Rattle.switch_laws.proofs.laws.listed_commands_are_begun.Goals as goal

pub returns-clause-listed : goal.returns-clause-listed
returns-clause-listed c r h switches legal = listed_are_begun r h legal switches

pub returns-clause-stays : goal.returns-clause-stays
returns-clause-stays c = begun_stays
