use Rattle.switch_laws.proofs.Stands.{held_at_end}
use Rattle.switch_laws.proofs.laws.finished_switches_hold_the_target.Goals as goal

pub returns : goal.returns
returns c = held_at_end
