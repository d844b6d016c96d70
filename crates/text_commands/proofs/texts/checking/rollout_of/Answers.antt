use Rattle.std.proofs.lemmas.Result.{err_from_is_err_and}
use Rattle.text_commands.proofs.Commands.{rollout-refuses, rollout-is}
use Rattle.text_commands.proofs.texts.checking.rollout_of.Goals as goal

pub returns-in_err-document : goal.returns-in_err-document
returns-in_err-document c = let p = err_from_is_err_and c.from_residual.result c.from_residual.ensures.1 in rw (p.1, p.2) (rollout-refuses _ _ c.in_err-document.ensures)

pub returns : goal.returns
returns c = rw (rollout-is _ _ c.in_ok-document.ensures) c.check_document.ensures.gives
