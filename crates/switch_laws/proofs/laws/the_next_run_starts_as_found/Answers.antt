use Rattle.switch_laws.proofs.Again.{starts_again}
use Rattle.switch_laws.proofs.laws.the_next_run_starts_as_found.Goals as goal

pub returns : goal.returns
returns c = starts_again
