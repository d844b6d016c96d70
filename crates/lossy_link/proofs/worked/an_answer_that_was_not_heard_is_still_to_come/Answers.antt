use Rattle.lossy_link.proofs.SmallCases.{unheard}
use Rattle.lossy_link.proofs.worked.an_answer_that_was_not_heard_is_still_to_come.Goals as goal

pub returns : goal.returns
returns c = unheard
