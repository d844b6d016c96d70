use Rattle.std.proofs.lemmas.Result.{err_from_is_err_and}
use Rattle.text_commands.proofs.Commands.{check-refuses, check-answers, read-checks-valid}
use Rattle.text_commands.proofs.texts.check.check.Goals as goal

pub returns-in_err-claimed-clause-gives : goal.returns-in_err-claimed-clause-gives
returns-in_err-claimed-clause-gives c = let p = err_from_is_err_and c.from_residual.result c.from_residual.ensures.1 in rw (p.1, p.2) (check-refuses _ _ c.in_err-claimed.ensures)

pub returns-clause-gives : goal.returns-clause-gives
returns-clause-gives c = rw (check-answers _ _ c.in_ok-claimed.ensures) c.judge.ensures.gives

pub returns-clause-safe : goal.returns-clause-safe
returns-clause-safe c = read-checks-valid _ _ c.judge.result c.in_ok-claimed.ensures c.judge.ensures.claimed
