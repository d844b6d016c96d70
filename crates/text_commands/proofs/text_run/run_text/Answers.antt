use Rattle.text_commands.proofs.Answering.{no-disk-fault, no-guest-fault, no-read-fault, no-rollout, no-usage}
use Rattle.text_commands.proofs.Following.{cut-rollout, cut-runs, short-runs}
use Rattle.text_commands.proofs.text_run.run_text.Goals as goal

pub returns-in-Ok-clause-runs : goal.returns-in-Ok-clause-runs
returns-in-Ok-clause-runs g c = short-runs _ _ _ _ _ _ _ c.in-Ok.ensures.read c.write_answer.ensures.follows c.write_answer.ensures.safe

pub returns-in-Ok-clause-read_fault : goal.returns-in-Ok-clause-read_fault
returns-in-Ok-clause-read_fault g c = λ e. absurd (no-read-fault _ _ _ _ (rw e at c.write_answer.ensures.follows))

pub returns-in-Ok-clause-ran : goal.returns-in-Ok-clause-ran
returns-in-Ok-clause-ran g c = λ e. no-usage _ _ _ _ (rw e at c.write_answer.ensures.follows)

pub returns-in-Err-clause-runs : goal.returns-in-Err-clause-runs
returns-in-Err-clause-runs g c = cut-runs _ _ _ _ _ c.in-Err.ensures.read

pub returns-in-Ok-clause-no_disk : goal.returns-in-Ok-clause-no_disk
returns-in-Ok-clause-no_disk g c = λ e. no-disk-fault _ _ _ _ (rw e at c.write_answer.ensures.follows)

pub returns-in-Ok-clause-no_guest : goal.returns-in-Ok-clause-no_guest
returns-in-Ok-clause-no_guest g c = λ e. no-guest-fault _ _ _ _ (rw e at c.write_answer.ensures.follows)

pub returns-in-Ok-clause-no_rollout : goal.returns-in-Ok-clause-no_rollout
returns-in-Ok-clause-no_rollout g c = λ u e. no-rollout _ _ u _ _ (rw e at c.write_answer.ensures.follows)

pub returns-in-Err-clause-no_rollout : goal.returns-in-Err-clause-no_rollout
returns-in-Err-clause-no_rollout g c = λ u e. cut-rollout _ _ _ u c.in-Err.ensures.read e
