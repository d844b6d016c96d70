use Rattle.std.proofs.lemmas.Result.{err_from_is_err_and}
use Rattle.text_commands.proofs.Commands.{least-refuses, least-answers, read-plans-least}
use Rattle.text_commands.proofs.texts.least.least.Goals as goal

pub returns-in_err-problem-clause-gives : goal.returns-in_err-problem-clause-gives
returns-in_err-problem-clause-gives c = let p = err_from_is_err_and c.from_residual.result c.from_residual.ensures.1 in rw (p.1, p.2) (least-refuses _ _ c.in_err-problem.ensures)

pub returns-clause-gives : goal.returns-clause-gives
returns-clause-gives c = rw (least-answers _ _ c.in_ok-problem.ensures) c.plan_and_prove.ensures.gives

pub returns-clause-safe : goal.returns-clause-safe
returns-clause-safe c = read-plans-least _ _ c.plan_and_prove.result c.in_ok-problem.ensures c.plan_and_prove.ensures.safe
