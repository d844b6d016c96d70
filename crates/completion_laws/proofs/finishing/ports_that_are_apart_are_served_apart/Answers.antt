use Rattle.completion_laws.proofs.Apart.{served-apart}
use Rattle.completion_laws.proofs.finishing.ports_that_are_apart_are_served_apart.Goals as goal

pub returns : goal.returns
returns g c = λ shifts spare opened same distinct. served-apart shifts spare opened same distinct
