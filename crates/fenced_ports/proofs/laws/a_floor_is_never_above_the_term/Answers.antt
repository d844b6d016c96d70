use Rattle.fenced_ports.proofs.Floors.{bounded, own-floor}
use Rattle.fenced_ports.proofs.laws.a_floor_is_never_above_the_term.Goals as goal

pub returns : goal.returns
returns c = record { bounded = bounded; own = own-floor }
