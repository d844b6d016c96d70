use Rattle.fenced_ports.proofs.Floors.{above-alien, handed-behind, handed-floor}
use Rattle.fenced_ports.proofs.laws.what_is_handed_on_is_behind_the_term.Goals as goal

pub returns : goal.returns
returns c = record { behind = handed-behind; floor = handed-floor; above = above-alien }
