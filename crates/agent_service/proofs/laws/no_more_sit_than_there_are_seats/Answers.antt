use Rattle.agent_service.proofs.Rows.{few_from_first}
use Rattle.agent_service.proofs.laws.no_more_sit_than_there_are_seats.Goals as goal

pub returns : goal.returns
returns g c = λ tells items before course now goes. few_from_first tells items before course now goes
