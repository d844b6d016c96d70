use Rattle.agent_service.proofs.Restarts.{read_one}
use Rattle.agent_service.proofs.laws.an_image_is_read_as_one_thing.Goals as goal

pub returns : goal.returns
returns c = read_one
