use Rattle.std.proofs.Common.{refl, arith}
use Rattle.rollout_rules.specs.Worked.{op_of}
use Rattle.switch_laws.proofs.SmallRuns.{ran, untold}
use Rattle.switch_laws.proofs.worked.a_run_of_one_operation_is_a_run.Goals as goal

pub returns-clause-answered : goal.returns-clause-answered
returns-clause-answered c = ran

pub returns-clause-unanswered : goal.returns-clause-unanswered
returns-clause-unanswered c run = untold (op_of 0 1) (run.answered (op_of 0 1) (1, omega arith, refl) refl)
