use Rattle.completion_laws.proofs.InFlight.{leaves-work}
use Rattle.completion_laws.proofs.work.a_round_leaves_work.Goals as goal

pub returns : goal.returns
returns c = λ o log net valid free legal turned unfinished. leaves-work o net valid free log legal turned unfinished
