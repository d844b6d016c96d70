use Rattle.controller_run.proofs.Answered.{none-ended}
use Rattle.controller_run.proofs.Alone.{begins-alone}
use Rattle.controller_run.proofs.promises.a_round_without_answers_ends_nothing.Goals as goal

pub returns-clause-batch : goal.returns-clause-batch
returns-clause-batch c = λ o h. none-ended o.rollout.problem o.rollout.plan o.policy h

pub returns-clause-call : goal.returns-clause-call
returns-clause-call c = λ o seat joined seen after reply call. begins-alone o seat joined seen after reply call
