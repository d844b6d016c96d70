use Rattle.std.proofs.lemmas.Result.{err_from_is_err_and}
use Rattle.text_commands.proofs.Commands.{loads-refuses, loads-answers, read-loads-safely}
use Rattle.text_commands.proofs.texts.loads.loads.Goals as goal

pub returns-in_err-document-clause-gives : goal.returns-in_err-document-clause-gives
returns-in_err-document-clause-gives c = let p = err_from_is_err_and c.from_residual.result c.from_residual.ensures.1 in rw (p.1, p.2) (loads-refuses _ _ c.in_err-document.ensures)

pub returns-clause-gives : goal.returns-clause-gives
returns-clause-gives c = rw (loads-answers _ _ c.in_ok-document.ensures) c.loaded_of.ensures.gives

pub returns-clause-safe : goal.returns-clause-safe
returns-clause-safe c = read-loads-safely _ _ c.loaded_of.result c.in_ok-document.ensures c.loaded_of.ensures.safe
