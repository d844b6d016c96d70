use Rattle.switch_ports.proofs.Stories.{told_now, told_stays}
use Rattle.switch_ports.proofs.laws.what_is_told_stays_told.Goals as goal

pub returns-clause-now : goal.returns-clause-now
returns-clause-now c = told_now

pub returns-clause-later : goal.returns-clause-later
returns-clause-later c = told_stays
