use Rattle.switch_laws.proofs.Again.{last_of_whole}
use Rattle.switch_laws.proofs.laws.whole_rounds_may_be_the_last.Goals as goal

pub returns : goal.returns
returns c = last_of_whole
