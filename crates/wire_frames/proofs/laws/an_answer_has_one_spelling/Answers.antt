use Rattle.wire_frames.proofs.OneSpelling.{one_answer}
use Rattle.wire_frames.proofs.laws.an_answer_has_one_spelling.Goals as goal

pub returns : goal.returns
returns c = one_answer
