use Rattle.lossy_link.proofs.SmallCases.{twice}
use Rattle.lossy_link.proofs.worked.an_answer_that_is_heard_twice_is_not_prompt.Goals as goal

pub returns : goal.returns
returns c = twice
