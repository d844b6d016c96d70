use Rattle.rollout_rules.specs.World.{in_flight}
use Rattle.rollout_book.specs.Commands.{asked}
use Rattle.completion_laws.proofs.Passing.{listed-fly}
use Rattle.completion_laws.proofs.PortTurns.{turns-port}
use Rattle.completion_laws.proofs.ports.a_port_that_is_up_to_date_answers_each_command.Goals as goal

pub returns : goal.returns
returns c = λ r migration homes h switches before offered now told net valid legal small up out hears.
    let turn = turns-port r migration homes h (asked r switches (in_flight r.problem h)) (listed-fly r migration homes h net valid legal small switches) before up offered now told out hears in
    (turn.told_is, turn.up)
