use Rattle.lossy_link.proofs.SmallCases.{above}
use Rattle.lossy_link.proofs.worked.an_answer_above_what_is_held_is_not_honest.Goals as goal

pub returns : goal.returns
returns c = above
