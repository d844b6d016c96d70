use Rattle.lp_proof.proofs.Built.{accepted-shows, accepted-formed, shows-accepted}
use Rattle.lp_proof.proofs.laws.the_check_tells_what_is_shown.Goals as goal

pub returns-clause-sound : goal.returns-clause-sound
returns-clause-sound c = accepted-shows

pub returns-clause-formed : goal.returns-clause-formed
returns-clause-formed c = accepted-formed

pub returns-clause-complete : goal.returns-clause-complete
returns-clause-complete c = shows-accepted
