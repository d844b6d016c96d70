use Rattle.text_commands.proofs.Complete.{answer-written}
use Rattle.text_commands.proofs.laws.an_answer_is_written.Goals as goal

pub returns : goal.returns
returns c = λ asked before after status input. answer-written asked before after status input
