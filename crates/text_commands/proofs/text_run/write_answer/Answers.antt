use Rattle.text_commands.proofs.Answering.{no-write-fault, no-done}
use Rattle.text_commands.proofs.text_run.write_answer.Goals as goal

pub returns-in-Err-clause-cause : goal.returns-in-Err-clause-cause
returns-in-Err-clause-cause g c = λ e. absurd (no-write-fault _ _ (rw e at c.in-Err.ensures.gives))

pub returns-in-Err-clause-safe : goal.returns-in-Err-clause-safe
returns-in-Err-clause-safe g c = λ e. absurd (no-done _ _ (rw e at c.in-Err.ensures.gives))

pub returns-in-Ok-clause-follows : goal.returns-in-Ok-clause-follows
returns-in-Ok-clause-follows g c = rw c.in-Ok.ensures.gives c.write_told.ensures.written

pub returns-in-Ok-clause-safe : goal.returns-in-Ok-clause-safe
returns-in-Ok-clause-safe g c = λ e. c.in-Ok.ensures.safe (c.write_told.ensures.read e)
